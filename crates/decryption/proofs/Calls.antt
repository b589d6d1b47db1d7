-- An array that a closure makes of its indices.
use Rattle.std.proofs.Common.{◌≡◌, ℕ, zero, suc, ◌+◌, ◌<◌, ◌≤◌, List, slice_index, subst, arith}
use native.Mathlib.Decide.{dec_lt}
use denote.Param.Members.{Mut, Called}
use Rattle.std.specs.Array.{IsFromFnResultFrom}

-- where each call leaves the closure as it was, and P holds of its index and what it gives, P holds of each index and the element there
pub made : {F : Type 0} (g : Mut F (ℕ × Unit {0}) ℕ) (f : F) (P : ℕ → ℕ → Type 0) → ((i y : ℕ) (q : F) → Called g f (i, tt) y q → (q ≡ f) × P i y) →
    (ys : List ℕ) (i n : ℕ) → IsFromFnResultFrom g f ys i n → (k : ℕ) → i ≤ k → k < i + n → P k (slice_index ys k)
made g f P same ys i zero r k low high = absurd (omega arith)
made {F} g f P same ys i (suc n) r k low high =
    let s : (r.0 ≡ f) × P i r.1 = same i r.1 r.0 r.3 in
    elim (dec_lt i k) [
      | yes l ↦ made g f P same ys (i + 1) n (subst (λ (p : F). IsFromFnResultFrom g p ys (i + 1) n) s.0 r.4) k (omega arith) (omega arith)
      | no l ↦ let e : k ≡ i = omega arith in rw (e, r.2.1 0) s.1
    ]
