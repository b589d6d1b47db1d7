-- What holds of each element of an array that `from_fn` made, if each call keeps what the closure has borrowed.
use Rattle.std.proofs.Common.{ℕ, zero, suc, ◌+◌, ◌<◌, ◌≤◌, ◌≡◌, ◌⊎◌, List, sym, subst, get_or, inl, inr, arith}
use Rattle.std.proofs.lemmas.Bool.{cases_order}
use Rattle.std.specs.Fn.{Mut, Called}
use Rattle.std.specs.Array.{IsFromFnResultFrom}

module _ {F B : Type 0} (g : Mut F (ℕ × Unit {0}) B) (Keeps : F → Type 0) (P : ℕ → B → Type 0)
    (step : (p q : F) (i : ℕ) (y : B) → Keeps p → Called g p (i, tt) y q → Keeps q × P i y) where
  pub each : (f : F) (ys : List B) (d : B) (i n k : ℕ) → Keeps f → IsFromFnResultFrom g f ys i n → i ≤ k → k < i + n → P k (get_or ys k d)
  each f ys d i zero k h r l u = absurd (omega arith)
  each f ys d i (suc n) k h r l u =
      let s = step f r.0 i r.1 h r.3 in
      go s.1 (λ m. each r.0 ys d (i + 1) n k s.0 r.4 m (omega arith)) (cases_order i k)
    where
      go : P i r.1 → (i + 1 ≤ k → P k (get_or ys k d)) → (i ≡ k) ⊎ ((i < k) ⊎ (k < i)) → P k (get_or ys k d)
      go here later (inl e) = subst (λ j. P j (get_or ys j d)) e (subst (P i) (sym (r.2.1 d)) here)
      go here later (inr (inl m)) = later (omega arith)
      go here later (inr (inr m)) = absurd (omega arith)
