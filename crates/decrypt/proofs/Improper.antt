-- The plain calls refuse no polynomials.
use Rattle.std.proofs.Common.{◌≡◌, ℕ, List, [], ◌∷◌, Result, Ok, Err, Some, None, MatchResult, length, refl, arith}
use Rattle.std.specs.Result.{result_ok}
use Rattle.rings.specs.declared.refusal.Refusal.{Refusal}
use mathlib.Core.Option.{none}
use Rattle.std.proofs.lemmas.Bool.{eq-eqb, eqb-true}
use Rattle.algebra.specs.Polynomials.{Polynomial}
use Rattle.rings.specs.Refusals.{answer, accepted, refused, ruling, flaw, below}
use Rattle.rings.proofs.Flaws.{all_low, low_at, passes}
use Rattle.transform.specs.Checks.{sized, ranged}

low : (f : List ℕ) → Polynomial 3328 f → flaw (below 3329) f ≡ none
low f P = all_low 3329 f (λ k l. P.small k (omega (arith, P.size)))

pub polynomial_of : (f : List ℕ) → length f ≡ 256 → flaw (below 3329) f ≡ none → Polynomial 3328 f
polynomial_of f size h = record { size = size; small = λ j l. low_at 3329 f h j (omega arith) }

pub no_refusal : (n p : ℕ) → refused n p ≡ accepted → ⊥
no_refusal n p e = let z : ◌≡◌ {A = ℕ} 0 1 = cc in omega arith

-- a call of which `ok` leaves no value was refused
pub no_value : (r : Result (Unit {0}) Refusal) → result_ok r ≡ None → answer r ≡ accepted → ⊥
no_value (Ok u) h e = absurd (cc)
no_value (Err why) h e = no_refusal _ _ e

-- and one of which it leaves a value was accepted
pub value : {P : Type 0} (Q : Refusal → Type 0) (r : Result (Unit {0}) Refusal) (u : Unit {0}) → result_ok r ≡ Some u → MatchResult r (λ _. P) Q → (accepted ≡ answer r) × P
value Q (Ok u) v e h = (refl, h)
value Q (Err why) v e h = absurd (cc)

-- where out has 256 numbers
pub transforms : (f : List ℕ) → Polynomial 3328 f → ruling (sized f 0 ∷ ranged f ∷ []) ≡ accepted
transforms f P = rw (eq-eqb (length f) 256 P.size, low f P)

pub multiplies : (f g : List ℕ) → Polynomial 3328 f → Polynomial 3328 g → ruling (sized f 0 ∷ sized g 1 ∷ ranged f ∷ ranged g ∷ []) ≡ accepted
multiplies f g P Q = rw (eq-eqb (length f) 256 P.size, eq-eqb (length g) 256 Q.size, low f P, low g Q)

pub transformed_of : (f : List ℕ) → accepted ≡ ruling (sized f 0 ∷ ranged f ∷ []) → Polynomial 3328 f
transformed_of f h = let n = passes (sized f 0 ∷ ranged f ∷ []) h in polynomial_of f (eqb-true (length f) 256 n.0) n.1.0

pub factor_of : (f g : List ℕ) → accepted ≡ ruling (sized f 0 ∷ sized g 1 ∷ ranged f ∷ ranged g ∷ []) → Polynomial 3328 g
factor_of f g h =
    let n = passes (sized f 0 ∷ sized g 1 ∷ ranged f ∷ ranged g ∷ []) h in
    polynomial_of g (eqb-true (length g) 256 n.1.0) n.1.1.1.0
