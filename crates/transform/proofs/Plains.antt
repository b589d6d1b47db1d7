-- From words of the plain ring modulo 3329 to polynomials, and back.
use Rattle.std.proofs.Common.{◌≡◌, ℕ, ◌<◌, ltb, List, length, get_or, sym, ap, map-id, arith}
use mathlib.Core.Option.{none}
use Rattle.std.proofs.lemmas.List.{get_or_default}
use Rattle.std.proofs.lemmas.Bool.{lt-ltb, ltb-true}
use Rattle.algebra.specs.Polynomials.{coefficient, listed, Polynomial}
use Rattle.algebra.proofs.Modular.{same_sym}
use Rattle.algebra.proofs.Lists.{listed_is}
use Rattle.rings.specs.Refusals.{flaw, below}
use Rattle.rings.proofs.Flaws.{low_at}
use Rattle.engine.specs.Rows.{Elements, IsRow, held}
use Rattle.engine.specs.Steps.{Agrees}
use Rattle.transform.proofs.Passing.{Passed}

-- a word means itself
pub held_is : (xs : List ℕ) → held (λ (x : ℕ). x) xs ≡ coefficient xs
held_is xs = ap (λ (ys : List ℕ). coefficient ys) (map-id xs)

-- a copy of checked coefficients is a row
pub row_of : (m : ℕ) (f out ws : List ℕ) → m ≡ 3329 → Passed f out → ws ≡ f → IsRow (λ (x : ℕ). ltb x m) ws
row_of m f out ws e P copied = rw copied (record { size = P.size; all = record { at = λ k d l. lt-ltb _ _ (rw e (within k d l)) } })
  where
    within : (k d : ℕ) → k < length f → get_or f k d < 3329
    within k d l = rw (get_or_default f k d 0 l) (low_at 3329 f P.range k l)

pub polynomial_of : (m : ℕ) (xs : List ℕ) → m ≡ 3329 → length xs ≡ 256 → Elements (λ (x : ℕ). ltb x m) xs → Polynomial 3328 xs
polynomial_of m xs e size E = record { size = size; small = λ j l. omega (arith, ltb-true (coefficient xs j) m (E.at j 0 (omega arith))) }

-- elements that agree with f are the list of f
pub listed_by : (m : ℕ) (f : ℕ → ℕ) (xs : List ℕ) → m ≡ 3329 → length xs ≡ 256 → Elements (λ (x : ℕ). ltb x m) xs → Agrees 3328 (coefficient xs) f → xs ≡ listed 3328 f
listed_by m f xs e size E A = sym (listed_is f xs (polynomial_of m xs e size E) (λ j l. same_sym (A j l)))

-- the same of a whole row, with what went in
module _ (f : List ℕ) (size : length f ≡ 256) (range : flaw (below 3329) f ≡ none) where
  pub polynomial_in : Polynomial 3328 f
  polynomial_in = record { size = size; small = λ j l. low_at 3329 f range j (omega arith) }
