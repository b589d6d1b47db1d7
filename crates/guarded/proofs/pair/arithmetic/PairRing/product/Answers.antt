use Rattle.std.proofs.Common.{◌≡◌, ℕ, ◌*◌, ◌%◌, ap, ◌∙◌}
use Rattle.std.proofs.lemmas.Bool.{ltb-true, and_parts}
use Rattle.rings.specs.PlainRing.{plain_modulus}
use Rattle.guarded.specs.TwoRemainders.{both_product}
use Rattle.guarded.proofs.pair.arithmetic.PairRing.product.Goals as goal

pub returns-clause-means : goal.returns-clause-means
returns-clause-means c =
    let s = c.args.self.now in
    let a = c.args.a in
    let b = c.args.b in
    let left = and_parts _ _ c.requires.left in
    let right = and_parts _ _ c.requires.right in
    let coefficient : c.product.result ≡ (a.coefficient * b.coefficient) % 3329 = c.product.ensures.means ∙ ap (λ (m : ℕ). (a.coefficient * b.coefficient) % m) s.coefficient in
    both_product (plain_modulus s.checks) s.known a.coefficient a.check b.coefficient b.check _ _
    (ltb-true _ _ left.0) (ltb-true _ _ left.1) (ltb-true _ _ right.0) (ltb-true _ _ right.1) coefficient c.product-2.ensures.means
