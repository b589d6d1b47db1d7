-- The factor of the last inverse layer: all words multiplied by the inverse of 128.
use Rattle.std.proofs.Common.{◌≡◌, ℕ, zero, suc, pred, ◌+◌, ◌-◌, ◌*◌, ◌%◌, ◌^◌, ◌<◌, ◌≤◌, Bool, true, ltb, List, length, get_or, set, sym, refl, ap, ◌∙◌, subst, mod-lt, mod-eq_of_lt, arith, length-set}
use native.Mathlib.Decide.{dec_lt}
use Rattle.std.proofs.lemmas.Bool.{lt-ltb}
use Rattle.algebra.specs.Congruence.{Same}
use Rattle.algebra.specs.declared.Direction.TheVariants.{Inverse}
use Rattle.algebra.specs.Layers.{last_factor, inv_stage}
use Rattle.algebra.specs.Masks.{mask_after, Holds, InverseLayer}
use Rattle.algebra.proofs.Modular.{same_of, same_sym, same_mod, same_mul_left, same_mul_right, ◌⨾◌}
use Rattle.algebra.proofs.MaskLists.{inverse_step_listed}
use Rattle.engine.specs.Rows.{held, Multiplied}
use Rattle.engine.specs.Steps.{WentBack, InverseOf128}
use Rattle.engine.proofs.Numbers.{with_factor}
use Rattle.engine.proofs.Layering.{half_turn, inverse_fits}
use Rattle.engine.proofs.Rows.{elements_set, held_same, held_other, held_at}

one_more : (m x a v y : ℕ) → x < m → a ≡ y → v ≡ (x * a) % m → Same (pred m) v (x * y)
one_more zero x a v y h e ev = absurd (omega arith)
one_more (suc neg) x a v y h e ev = same_of ev ⨾ same_mod (x * a) ⨾ same_of (ap (λ (k : ℕ). x * k) e)

module _ {W : Type 0} (element : W → Bool) (f : W → ℕ) (m x : ℕ) where
  pub multiplied_more : (n : ℕ) (ws ws' : List W) (a v : W) → n < length ws → x < m → Multiplied element f (pred m) x n ws ws' →
      a ≡ get_or ws' n a → element v ≡ true → f v ≡ (x * f a) % m → Multiplied element f (pred m) x (n + 1) ws (set ws' n v)
  multiplied_more n ws ws' a v h b t ea ev em =
      let within : n < length ws' = omega (arith, t.size) in
      record {
        size = length-set ws' n v ∙ t.size;
        all = elements_set element ws' n v t.all ev;
        after = λ k l. held_other f ws' n v k (omega arith) ∙ t.after k (omega arith);
        here = λ k l. elim (dec_lt k n) [
          | yes u ↦ rw (held_other f ws' n v k (omega arith)) (t.here k u)
          | no u ↦
              let e : k ≡ n = omega arith in
              let new : held f (set ws' n v) n ≡ f v = held_same f ws' n v within in
              rw (e, new) (one_more m x (f a) (f v) (held f ws n) b (sym (held_at f ws' n a within ea) ∙ t.after n (omega arith)) em)
        ];
      }

inverts_by : (m x : ℕ) → x < m → (128 * x) % m ≡ 1 → InverseOf128 (pred m) x
inverts_by zero x h e = absurd (omega arith)
inverts_by (suc neg) x h e =
    let one : (128 * x) % suc neg < suc neg = mod-lt (128 * x) (omega arith) in
    let small : 1 < suc neg = omega arith in
    let turn : x * 128 ≡ 128 * x = omega arith in
    record { same = ap (λ (k : ℕ). k % suc neg) turn ∙ e ∙ sym (mod-eq_of_lt small) }

-- a number has one inverse
one_inverse : {neg : ℕ} (x i : ℕ) → InverseOf128 neg x → InverseOf128 neg i → Same neg x i
one_inverse x i a b =
    same_of {y = x * 1} (omega arith) ⨾ same_mul_left x (same_sym b) ⨾ same_of {y = x * 2 ^ 7 * i} (omega arith) ⨾ same_mul_right i a ⨾ same_of (omega arith)

pub scaled_by : {W : Type 0} (element : W → Bool) (f : W → ℕ) (m x n : ℕ) (ws ws' : List W) → x < m → (128 * x) % m ≡ 1 → 256 ≤ n →
    Multiplied element f (pred m) x n ws ws' → (i : ℕ) → InverseOf128 (pred m) i → (j : ℕ) → j < 256 → Same (pred m) (held f ws' j) (i * held f ws j)
scaled_by element f m x n ws ws' b e h t i v j l = t.here j (omega arith) ⨾ same_mul_right (held f ws j) (one_inverse x i (inverts_by m x b e) v)

-- the last layer with its factor
module _ (neg w i : ℕ) (e d h h₁ h₂ : ℕ → ℕ) where
  scaled : {a b : ℕ} (c : ℕ) → Same neg a (i * b) → Same neg b (1 * c) → Same neg a (i * c)
  scaled c p q = p ⨾ same_mul_left i q ⨾ same_of (omega arith)

  scaled_layer : InverseLayer 7 neg w 1 7 e d h h₁ → ((j : ℕ) → j < 256 → Same neg (h₂ j) (i * h₁ j)) → InverseLayer 7 neg w i 7 e d h h₂
  scaled_layer M S = record {
    at = λ g o a b.
        let room = inverse_fits 7 g (omega arith) (omega arith) a in
        record {
          low = scaled _ (S _ (omega arith)) (M.at g o a b).low;
          high = scaled _ (S _ (omega arith)) (M.at g o a b).high;
        };
  }

pub scaled_last : (neg w i s : ℕ) (e d h h₁ h₂ : ℕ → ℕ) → s ≡ 7 → InverseLayer 7 neg w 1 s e d h h₁ → ((j : ℕ) → j < 256 → Same neg (h₂ j) (i * h₁ j)) → InverseLayer 7 neg w i s e d h h₂
scaled_last neg w i s e d h h₁ h₂ is M S =
    subst (λ (k : ℕ). InverseLayer 7 neg w i k e d h h₂) (sym is)
    (scaled_layer neg w i e d h h₁ h₂ (subst (λ (k : ℕ). InverseLayer 7 neg w 1 k e d h h₁) is M) S)

-- the other layers have none
pub unscaled_layer : (neg w i s : ℕ) (e d h h' : ℕ → ℕ) → s < 7 → InverseLayer 7 neg w 1 s e d h h' → InverseLayer 7 neg w i s e d h h'
unscaled_layer neg w i s e d h h' l M =
    let some : ltb s 7 ≡ true = lt-ltb s 7 l in
    let same : last_factor 7 1 s ≡ last_factor 7 i s = rw some refl in
    record { at = λ g o a b. with_factor same (M.at g o a b) }

pub went_back : (m w i s : ℕ) → (w ^ 128 + 1) % m ≡ 0 → 1 ≤ s → s ≤ 7 → (before list : List ℕ) (h h' : ℕ → ℕ) →
    InverseLayer 7 (pred m) w i s (mask_after 7 Inverse (s - 1) before) (mask_after 7 Inverse s list) h h' → WentBack (pred m) w i s before list h h'
went_back m w i zero turn a b before list h h' M = absurd (omega arith)
went_back m w i (suc t) turn a b before list h h' M =
    let e : suc t - 1 ≡ t = omega arith in
    record {
      layer = M;
      step = λ g holds.
          inverse_step_listed 7 w (omega arith) (half_turn m (w ^ 128) turn) i t b before list g h h'
          (subst (λ (q : ℕ). Holds (pred m) w (mask_after 7 Inverse q before) (inv_stage 7 (pred m) w i q g) h) e holds)
          (subst (λ (q : ℕ). InverseLayer 7 (pred m) w i (suc t) (mask_after 7 Inverse q before) (mask_after 7 Inverse (suc t) list) h h') e M);
    }
