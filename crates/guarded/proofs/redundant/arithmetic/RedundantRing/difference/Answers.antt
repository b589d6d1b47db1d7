use Rattle.std.proofs.Common.{◌*◌, ◌<◌, arith, rules}
use Rattle.std.proofs.lemmas.Bool.{ltb-true}
use Rattle.algebra.proofs.Remainders.{less_low, less_high, less_up, less_down}
use Rattle.guarded.specs.ModuliLemmas.{known_above}
use Rattle.guarded.proofs.redundant.arithmetic.RedundantRing.difference.Goals as goal

pub returns-then-a-b-clause-means : goal.returns-then-a-b-clause-means
returns-then-a-b-clause-means c =
    let s = c.args.self.now in
    let above : 3329 < s.check.p.number = known_above s.check.p.number s.check.known in
    rw s.counts (less_low (3329 * s.check.p.number) s.t c.args.a c.args.b (omega arith) (ltb-true _ _ c.requires.right))

pub returns-else-a-b-clause-means : goal.returns-else-a-b-clause-means
returns-else-a-b-clause-means c =
    let s = c.args.self.now in
    let above : 3329 < s.check.p.number = known_above s.check.p.number s.check.known in
    less_high (3329 * s.check.p.number) s.t c.args.a c.args.b (omega arith) (ltb-true _ _ c.requires.right) (search rules)

pub returns-then-a-b-clause-word : goal.returns-then-a-b-clause-word
returns-then-a-b-clause-word c =
    let s = c.args.self.now in
    let right : c.args.b < 3329 * s.check.p.number * s.t = ltb-true _ _ c.requires.right in
    rw s.counts (less_up c.args.a c.args.b (3329 * s.check.p.number * s.t) (search rules) right)

pub returns-else-a-b-clause-word : goal.returns-else-a-b-clause-word
returns-else-a-b-clause-word c =
    let s = c.args.self.now in
    let left : c.args.a < 3329 * s.check.p.number * s.t = ltb-true _ _ c.requires.left in
    let right : c.args.b < 3329 * s.check.p.number * s.t = ltb-true _ _ c.requires.right in
    less_down c.args.a c.args.b (3329 * s.check.p.number * s.t) left (search rules)
