-- A table of the values of a function: its rule at each entry. A table that the code writes out computes to the same list.
use Rattle.std.proofs.Common.{◌≡◌, ℕ, zero, suc, ◌+◌, ◌%◌, ◌^◌, ◌<◌, List, [], ◌∷◌, get_or, ap, ◌∙◌, le_of_suc-le-suc, not-suc-le-zero, zero-add, arith}

-- f from, f (from + 1) and so on, count of them
abbrev pub tabulated : (ℕ → ℕ) → (from count : ℕ) → List ℕ
tabulated f from zero = []
tabulated f from (suc count) = f from ∷ tabulated f (suc from) count

tabulated_from : (f : ℕ → ℕ) (from count k : ℕ) → k < count → get_or (tabulated f from count) k 0 ≡ f (from + k)
tabulated_from f from zero k h = absurd (not-suc-le-zero h)
tabulated_from f from (suc count) zero h = ap f (omega arith)
tabulated_from f from (suc count) (suc k) h = tabulated_from f (suc from) count k (le_of_suc-le-suc h) ∙ ap f (omega arith)

pub tabulated_at : (f : ℕ → ℕ) (count k : ℕ) → k < count → get_or (tabulated f 0 count) k 0 ≡ f k
tabulated_at f count k h = tabulated_from f 0 count k h ∙ ap f (zero-add k)

-- the 256 powers of w modulo n
abbrev pub power : (w n e : ℕ) → ℕ
power w n e = (w ^ e) % n

pub power_at : (w n e : ℕ) → e < 256 → get_or (tabulated (power w n) 0 256) e 0 ≡ (w ^ e) % n
power_at w n = tabulated_at (power w n) 256
