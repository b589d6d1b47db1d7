-- What `position` finds among the words of a register, as the checks of a call name it.
use Rattle.std.proofs.Common.{◌≡◌, ℕ, suc, ◌+◌, ◌%◌, Bool, true, false, cond, not, eqb, nat_lt, List, [], ◌∷◌, map, length, refl, ap, arith}
use Rattle.std.specs.Prelude.{Option, Some, None}
use Rattle.std.specs.List.{position, position_or_len, zip}
use Rattle.std.proofs.lemmas.Bool.{lt-ltb, le-ltb, ltb-true, ltb-false}
use mathlib.Core.Option as math
use mathlib.Core.Option.{none, some}
use Rattle.rings.specs.Refusals.{flaw, next}
use Rattle.histories.specs.Calls.{differ}

abbrev pub found : Option ℕ → math.Option ℕ
found None = none
found (Some k) = some k

-- in a longer list
found_next : {A : Type 0} (p : A → Bool) (x : A) (xs : List A) → found (position p (x ∷ xs)) ≡ cond (p x) (some 0) (next (found (position p xs)))
found_next p x xs = go (p x) (nat_lt (position_or_len p xs) (length xs)) refl
  where
    n : ℕ
    n = position_or_len p xs

    go : (b c : Bool) → nat_lt n (length xs) ≡ c →
        found (cond (nat_lt (cond (not b) (1 + n) 0) (suc (length xs))) (Some (cond (not b) (1 + n) 0)) None)
        ≡ cond b (some 0) (next (found (cond c (Some n) None)))
    go true c h = rw (lt-ltb 0 (suc (length xs)) (omega arith)) refl
    go false true h = rw (lt-ltb (1 + n) (suc (length xs)) (omega (arith, ltb-true _ _ h))) (ap (λ (k : ℕ). some k) (omega arith))
    go false false h = rw (le-ltb (1 + n) (suc (length xs)) (omega (arith, ltb-false _ _ h))) refl

-- the first word that fails a test
pub flaw_found : {A : Type 0} (t : A → Bool) (xs : List A) → flaw t xs ≡ found (position (λ x. not (t x)) xs)
flaw_found t [] = refl
flaw_found t (x ∷ xs) = rw (found_next (λ y. not (t y)) x xs, flaw_found t xs) (go (t x))
  where
    go : (b : Bool) → cond b (next (found (position (λ y. not (t y)) xs))) (some 0) ≡ cond (not b) (some 0) (next (found (position (λ y. not (t y)) xs)))
    go true = refl
    go false = refl

-- the first word whose number leaves another remainder than the one beside it
pub differ_found : {A : Type 0} (m : ℕ) (f : A → ℕ) (xs : List A) (ys : List ℕ) → length xs ≡ length ys →
    differ (map (λ n. n % m) (map f xs)) ys ≡ found (position (λ x. not (eqb (f x.0 % m) x.1)) (zip xs ys))
differ_found m f [] [] e = refl
differ_found m f [] (y ∷ ys) e = absurd (omega arith)
differ_found m f (x ∷ xs) [] e = absurd (omega arith)
differ_found {A} m f (x ∷ xs) (y ∷ ys) e =
    rw (found_next (λ (q : A × ℕ). not (eqb (f q.0 % m) q.1)) (x, y) (zip xs ys), differ_found m f xs ys (omega arith)) (go (eqb (f x % m) y) _)
  where
    go : (b : Bool) (o : math.Option ℕ) → cond b (next o) (some 0) ≡ cond (not b) (some 0) (next o)
    go true o = refl
    go false o = refl
