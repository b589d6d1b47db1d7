-- The first place where a test fails, from what a loop has seen; and what passing means.
use Rattle.std.proofs.Common.{◌≡◌, ℕ, zero, suc, ◌+◌, ◌<◌, Bool, true, false, cond, not, nat_lt, List, [], ◌∷◌, length, get_or, refl, ap, arith}
use Rattle.std.specs.List.{position, position_or_len}
use Rattle.std.specs.Ordering.{is_ge, nat_cmp}
use Rattle.std.specs.Prelude.{Some, None}
use Rattle.std.proofs.lemmas.Bool.Decides.{nat_tests}
use mathlib.Core.Option.{Option, none, some}
use Rattle.std.proofs.lemmas.Bool.{lt-ltb, le-ltb, ltb-true, ltb-false}
use Rattle.rings.specs.declared.refusal.Refusal.{Refusal}
use Rattle.rings.specs.Refusals.{accepted, Check, test, scan, ruling, Passes, next, flaw, below}

pub flaw_at : {A : Type 0} (t : A → Bool) (xs : List A) (i : ℕ) (d : A) → i < length xs →
    ((k : ℕ) → k < i → t (get_or xs k d) ≡ true) → t (get_or xs i d) ≡ false → flaw t xs ≡ some i
flaw_at t [] i d h b e = absurd (omega arith)
flaw_at t (x ∷ xs) zero d h b e = rw e
flaw_at t (x ∷ xs) (suc i) d h b e = rw (b 0 (omega arith), flaw_at t xs i d (omega arith) (λ k l. b (suc k) (omega arith)) e)

pub flaw_past : {A : Type 0} (t : A → Bool) (xs : List A) (d : A) → ((k : ℕ) → k < length xs → t (get_or xs k d) ≡ true) → flaw t xs ≡ none
flaw_past t [] d b = refl
flaw_past t (x ∷ xs) d b = rw (b 0 (omega arith), flaw_past t xs d (λ k l. b (suc k) (omega arith)))

-- the same of what `position` finds
pub flaw_position : {A : Type 0} (t p : A → Bool) → ((x : A) → t x ≡ not (p x)) → (xs : List A) →
    flaw t xs ≡ cond (nat_lt (position_or_len p xs) (length xs)) (some (position_or_len p xs)) none
flaw_position t p e [] = refl
flaw_position t p e (x ∷ xs) = rw (e x, flaw_position t p e xs) (go (p x) (nat_lt (position_or_len p xs) (length xs)) refl)
  where
    go : (b c : Bool) → nat_lt (position_or_len p xs) (length xs) ≡ c →
        cond (not b) (next (cond c (some (position_or_len p xs)) none)) (some 0)
        ≡ cond (nat_lt (cond (not b) (1 + position_or_len p xs) 0) (suc (length xs))) (some (cond (not b) (1 + position_or_len p xs) 0)) none
    go true c h = rw (lt-ltb 0 (suc (length xs)) (omega arith)) refl
    go false true h = rw (lt-ltb (1 + position_or_len p xs) (suc (length xs)) (omega (arith, ltb-true _ _ h))) (ap (λ (n : ℕ). some n) (omega arith))
    go false false h = rw (le-ltb (1 + position_or_len p xs) (suc (length xs)) (omega (arith, ltb-false _ _ h))) refl

abbrev high : (m x : ℕ) → Bool
high m x = is_ge (nat_cmp x m)

low_not_high : (m x : ℕ) → below m x ≡ not (high m x)
low_not_high m x = grind (arith, nat_tests)

-- the first number that is not below m, if there is one
pub high_some : (m : ℕ) (xs : List ℕ) (i : ℕ) → position (high m) xs ≡ Some i → flaw (below m) xs ≡ some i
high_some m xs i h = rw (flaw_position (below m) (high m) (low_not_high m) xs) (go (nat_lt (position_or_len (high m) xs) (length xs)) h)
  where
    go : (b : Bool) → cond b (Some (position_or_len (high m) xs)) None ≡ Some i → cond b (some (position_or_len (high m) xs)) none ≡ some i
    go true h = cc
    go false h = cc

pub high_none : (m : ℕ) (xs : List ℕ) → position (high m) xs ≡ None → flaw (below m) xs ≡ none
high_none m xs h = rw (flaw_position (below m) (high m) (low_not_high m) xs) (go (nat_lt (position_or_len (high m) xs) (length xs)) h)
  where
    go : (b : Bool) → cond b (Some (position_or_len (high m) xs)) None ≡ None → cond b (some (position_or_len (high m) xs)) none ≡ none
    go true h = cc
    go false h = refl

pub all_low : (m : ℕ) (xs : List ℕ) → ((k : ℕ) → k < length xs → get_or xs k 0 < m) → flaw (below m) xs ≡ none
all_low m xs b = flaw_past (below m) xs 0 (λ k l. lt-ltb _ _ (b k l))

none≢some : {A : Type 0} {x : A} → some x ≡ none → ⊥
none≢some {A} {x} e = let z : ◌≡◌ {A = ℕ} 0 1 = cc in omega arith

next_none : (o : Option ℕ) → next o ≡ none → o ≡ none
next_none none h = refl
next_none (some k) h = absurd (none≢some h)

pub at_none : {A : Type 0} (t : A → Bool) (xs : List A) → flaw t xs ≡ none → (k : ℕ) (d : A) → k < length xs → t (get_or xs k d) ≡ true
at_none t [] h k d l = absurd (omega arith)
at_none t (x ∷ xs) h k d l = go (at_none t xs) (t x) refl h k l
  where
    go : (flaw t xs ≡ none → (k : ℕ) (d : _) → k < length xs → t (get_or xs k d) ≡ true) → (b : Bool) → t x ≡ b →
        cond b (next (flaw t xs)) (some 0) ≡ none → (k : ℕ) → k < suc (length xs) → t (get_or (x ∷ xs) k d) ≡ true
    go ih true e h zero l = e
    go ih true e h (suc k) l = ih (next_none (flaw t xs) h) k d (omega arith)
    go ih false e h k l = absurd (none≢some h)

pub low_at : (m : ℕ) (xs : List ℕ) → flaw (below m) xs ≡ none → (k : ℕ) → k < length xs → get_or xs k 0 < m
low_at m xs h k l = ltb-true (get_or xs k 0) m (at_none (below m) xs h k 0 l)

-- an accepted call passed all of its checks
pub passes : (checks : List (Check Refusal)) → accepted ≡ ruling checks → Passes checks
passes [] h = tt
passes (test true e ∷ checks) h = (refl, passes checks h)
passes (test false e ∷ checks) h = let z : ◌≡◌ {A = ℕ} 0 1 = cc in absurd (omega arith)
passes (scan none e ∷ checks) h = (refl, passes checks h)
passes (scan (some k) e ∷ checks) h = let z : ◌≡◌ {A = ℕ} 0 1 = cc in absurd (omega arith)
