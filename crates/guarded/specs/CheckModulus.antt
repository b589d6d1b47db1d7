-- The check moduli by their numbers.
use Rattle.std.specs.Prelude.{◌≡◌, ℕ, false, Result, MatchResult}
use Rattle.rings.specs.declared.refusal.Refusal.{Refusal}
use Rattle.rings.specs.declared.refusal.Refusal.TheVariants.{Modulus}
use Rattle.guarded.specs.declared.check.CheckModulus.{CheckModulus}
use Rattle.guarded.specs.Moduli.{is_check}

-- the check modulus of this number, or the refusal of any that is not approved
abbrev pub Approves : ℕ → Result CheckModulus Refusal → Type 0
Approves p result = MatchResult result (λ check. check.p.number ≡ p) (λ e. (is_check p ≡ false) × (e ≡ Modulus))
