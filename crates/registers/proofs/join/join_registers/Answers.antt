use Rattle.std.proofs.Common.{pred, rules, ◌+◌, ◌-◌, ◌*◌, ◌%◌}
use Rattle.histories.specs.Operations.{sum_of, difference_of}
use Rattle.registers.proofs.Reading.{sound_at}
use Rattle.registers.proofs.Joining.{joined, same_sum, same_difference}
use Rattle.registers.proofs.join.join_registers.Goals as goal

pub combine_registers-requires-clause-callable : goal.combine_registers-requires-clause-callable
combine_registers-requires-clause-callable g c = λ k e h _ _ _ _ _. (
  sound_at _ _ c.args.join.a.number c.requires.size c.args.join.a.known c.requires.left k e h,
  sound_at _ _ c.args.join.b.number c.requires.size c.args.join.b.known c.requires.right k e h,
)

pub combine_registers-requires-in-Minus-clause-callable :
    goal.combine_registers-requires-in-Minus-clause-callable
combine_registers-requires-in-Minus-clause-callable g c = λ k e h _ _ _ _ _. (
  sound_at _ _ c.args.join.a.number c.requires.size c.args.join.a.known c.requires.left k e h,
  sound_at _ _ c.args.join.b.number c.requires.size c.args.join.b.known c.requires.right k e h,
)

pub returns-in-Plus-clause-means : goal.returns-in-Plus-clause-means
unfolding sum_of
returns-in-Plus-clause-means g c =
    let s = c.args.ring.now in
    let j = c.args.join in
    rw c.in-Plus.is
    (joined _ (g.met.G.GuardedRing.lawful s) c.args.words.now _ j.d.number j.a.number j.b.number c.requires.size j.d.known j.a.known j.b.known
    c.requires.left c.requires.right (g.G.Ring.modulus s) (g.met.G.GuardedRing.joint s) (λ m x y. x + y) (λ m x y. (x + y) % m) same_sum
    (record { only = c.combine_registers.ensures.only; made = λ k e h. let w = c.combine_registers.ensures.made k e h in search rules }))

pub returns-in-Minus-clause-means : goal.returns-in-Minus-clause-means
unfolding difference_of
returns-in-Minus-clause-means g c =
    let s = c.args.ring.now in
    let j = c.args.join in
    rw c.in-Minus.is
    (joined _ (g.met.G.GuardedRing.lawful s) c.args.words.now _ j.d.number j.a.number j.b.number c.requires.size j.d.known j.a.known j.b.known
    c.requires.left c.requires.right (g.G.Ring.modulus s) (g.met.G.GuardedRing.joint s) (λ m x y. x + pred m * y) (λ m x y. (x + (m - y)) % m) same_difference
    (record { only = c.combine_registers-in-Minus.ensures.only; made = λ k e h. let w = c.combine_registers-in-Minus.ensures.made k e h in search rules }))
