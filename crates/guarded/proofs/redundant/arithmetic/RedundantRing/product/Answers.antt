use Rattle.std.proofs.Common.{◌*◌, ◌%◌, ap, ◌∙◌, ℕ}
use Rattle.algebra.proofs.Remainders.{product_means}
use Rattle.guarded.proofs.redundant.arithmetic.RedundantRing.product.Goals as goal

pub returns-clause-means : goal.returns-clause-means
returns-clause-means c =
    let s = c.args.self.now in
    product_means (3329 * s.check.p.number) s.t c.args.a c.args.b c.remainder.result (c.remainder.ensures ∙ ap (λ (m : ℕ). (c.args.a * c.args.b) % m) s.counts)
