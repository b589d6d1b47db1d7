use Rattle.std.proofs.Common.{◌+◌, ◌-◌, ◌*◌, ◌<◌, sym, mod-eq_of_lt, arith}
use Rattle.std.proofs.lemmas.Bool.{ltb-true}
use Rattle.algebra.proofs.Remainders.{sum_low, sum_high, add_high}
use Rattle.guarded.proofs.redundant.arithmetic.RedundantRing.sum.Goals as goal

pub returns-then-a-gap-clause-means : goal.returns-then-a-gap-clause-means
returns-then-a-gap-clause-means c = let s = c.args.self.now in sum_low (3329 * s.check.p.number) s.t c.args.a c.args.b

pub returns-then-a-gap-clause-word : goal.returns-then-a-gap-clause-word
returns-then-a-gap-clause-word c =
    let s = c.args.self.now in
    let low : c.args.a + c.args.b < 3329 * s.check.p.number * s.t = omega arith in
    sym (mod-eq_of_lt low)

pub returns-else-a-gap-clause-means : goal.returns-else-a-gap-clause-means
returns-else-a-gap-clause-means c =
    let s = c.args.self.now in
    let right : c.args.b < 3329 * s.check.p.number * s.t = ltb-true _ _ c.requires.right in
    sum_high (3329 * s.check.p.number) s.t c.args.a c.args.b (c.args.a - (s.words.number - c.args.b)) (omega arith)

pub returns-else-a-gap-clause-word : goal.returns-else-a-gap-clause-word
returns-else-a-gap-clause-word c =
    let s = c.args.self.now in
    let left : c.args.a < 3329 * s.check.p.number * s.t = ltb-true _ _ c.requires.left in
    let right : c.args.b < 3329 * s.check.p.number * s.t = ltb-true _ _ c.requires.right in
    rw s.counts (add_high c.args.a c.args.b (3329 * s.check.p.number * s.t) left right (omega arith))
