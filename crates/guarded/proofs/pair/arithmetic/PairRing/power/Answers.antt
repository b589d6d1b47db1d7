use Rattle.std.proofs.Common.{◌≡◌, ℕ, ◌%◌, ◌^◌, ap, ◌∙◌}
use Rattle.rings.specs.Moduli.{plain_root}
use Rattle.rings.specs.PlainRing.{plain_modulus}
use Rattle.guarded.specs.TwoRemainders.{both_power}
use Rattle.guarded.proofs.pair.arithmetic.PairRing.power.Goals as goal

pub returns-clause-means : goal.returns-clause-means
returns-clause-means c =
    let s = c.args.self.now in
    let coefficient : c.power.result ≡ (17 ^ c.args.e) % 3329 = c.power.ensures.means ∙ ap (λ (m : ℕ). (plain_root m ^ c.args.e) % m) s.coefficient in
    both_power (plain_modulus s.checks) s.known c.args.e _ _ coefficient c.power-2.ensures.means
