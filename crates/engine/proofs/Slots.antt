-- The products of the slots, one after the other.
use Rattle.std.proofs.Common.{◌≡◌, ℕ, zero, suc, pred, ◌+◌, ◌*◌, ◌/◌, ◌%◌, ◌^◌, ◌<◌, ◌≤◌, Bool, true, ◌≢◌, List, length, get_or, set, ap, ◌∙◌, mul-le-mul_right, arith, length-set, get_or-set_other, get_or-set_same}
use native.Mathlib.Decide.{dec_lt, ℕ_discrete}
use Rattle.algebra.specs.Congruence.{Same}
use Rattle.algebra.specs.Layers.{bitrev}
use Rattle.algebra.specs.Slots.{gamma}
use Rattle.algebra.specs.Product.{BaseProducts}
use Rattle.algebra.proofs.Modular.{same_of, same_mod, same_add, same_mul_left, same_mul_right, same_refl, ◌⨾◌}
use Rattle.algebra.proofs.Bits.{rev_none, rev_suc}
use Rattle.algebra.proofs.Theorems.{products}
use Rattle.engine.specs.Rows.{Elements, held}
use Rattle.engine.specs.Slots.{SlotProduct, SlotsWritten}
use Rattle.engine.proofs.Rows.{held_same, held_other}

pub rev_small : (k x : ℕ) → bitrev k x < 2 ^ k
rev_small zero x = rw (rev_none x) (omega arith)
rev_small (suc k) x =
    let below = rev_small k (x / 2) in
    let bit : x % 2 * 2 ^ k ≤ 1 * 2 ^ k = mul-le-mul_right {m = x % 2} {n = 1} (2 ^ k) (omega arith) in
    rw (rev_suc k x) (omega arith)

pub slot_numbers : (m c a b x y ax by t ay bx r s : ℕ) → a < m →
    ax ≡ (a * x) % m → by ≡ (b * y) % m → t ≡ (by * c) % m → ay ≡ (a * y) % m → bx ≡ (b * x) % m → r ≡ (ax + t) % m → s ≡ (ay + bx) % m →
    SlotProduct (pred m) c a b x y r s
slot_numbers zero c a b x y ax by t ay bx r s some eax eby et eay ebx er es = absurd (omega arith)
slot_numbers (suc neg) c a b x y ax by t ay bx r s some eax eby et eay ebx er es =
    record {
      first =
          same_of er ⨾ same_mod (ax + t)
          ⨾ same_add (same_of eax ⨾ same_mod (a * x)) (same_of et ⨾ same_mod (by * c) ⨾ same_mul_right c (same_of eby ⨾ same_mod (b * y)));
      second = same_of es ⨾ same_mod (ay + bx) ⨾ same_add (same_of eay ⨾ same_mod (a * y)) (same_of ebx ⨾ same_mod (b * x));
    }

-- the root of slot n, as the code looks it up
pub gamma_by : (m w n r c : ℕ) → c < m → r ≡ bitrev 7 n → c ≡ (w ^ (2 * r + 1)) % m → Same (pred m) c (gamma 7 w n)
unfolding gamma
gamma_by zero w n r c h er ec = absurd (omega arith)
gamma_by (suc neg) w n r c h er ec = same_of ec ⨾ same_mod (w ^ (2 * r + 1)) ⨾ same_of (ap (λ (k : ℕ). w ^ (2 * k + 1)) er)

pub other_root : (neg c c' a b x y r s : ℕ) → Same neg c c' → SlotProduct neg c a b x y r s → SlotProduct neg c' a b x y r s
other_root neg c c' a b x y r s e t = record { first = t.first ⨾ same_add same_refl (same_mul_left (b * y) e); second = t.second }

module _ {W : Type 0} (element : W → Bool) (f : W → ℕ) (m w : ℕ) (ls rs : ℕ → ℕ) where
  pub slots_more : (n r : ℕ) (c x y : W) (a0 a1 b0 b1 : ℕ) (ws ws' : List W) → 2 * n + 1 < length ws → f c < m → r ≡ bitrev 7 n → f c ≡ (w ^ (2 * r + 1)) % m →
      a0 ≡ ls (2 * n) → a1 ≡ ls (2 * n + 1) → b0 ≡ rs (2 * n) → b1 ≡ rs (2 * n + 1) →
      SlotsWritten element f (pred m) w ls rs n ws ws' → element x ≡ true → element y ≡ true → SlotProduct (pred m) (f c) a0 a1 b0 b1 (f x) (f y) →
      SlotsWritten element f (pred m) w ls rs (n + 1) ws (set (set ws' (2 * n) x) (2 * n + 1) y)
  slots_more n r c x y a0 a1 b0 b1 ws ws' room low er ec p0 p1 q0 q1 t ex ey u =
      let i : ℕ = 2 * n in
      let ne : i ≢ i + 1 = omega arith in
      let here : i < length ws' = omega (arith, t.size) in
      let within : i + 1 < length (set ws' i x) = simp length-set (omega (arith, t.size)) in
      let left : held f (set (set ws' i x) (i + 1) y) i ≡ f x = held_other f (set ws' i x) (i + 1) y i ne ∙ held_same f ws' i x here in
      let right : held f (set (set ws' i x) (i + 1) y) (i + 1) ≡ f y = held_same f (set ws' i x) (i + 1) y within in
      let stay : (k : ℕ) → k ≢ i → k ≢ i + 1 → held f (set (set ws' i x) (i + 1) y) k ≡ held f ws' k =
      λ k a b. held_other f (set ws' i x) (i + 1) y k b ∙ held_other f ws' i x k a in
      record {
        size = simp length-set t.size;
        all = λ k d h. elim (ℕ_discrete k (i + 1)) [
          | yes e ↦ ap element (ap (λ (q : ℕ). get_or (set (set ws' i x) (i + 1) y) q d) e ∙ get_or-set_same (set ws' i x) (i + 1) y d within) ∙ ey
          | no a ↦ elim (ℕ_discrete k i) [
            | yes e ↦ ap element (get_or-set_other (set ws' i x) (i + 1) k y d a ∙ ap (λ (q : ℕ). get_or (set ws' i x) q d) e ∙ get_or-set_same ws' i x d here) ∙ ex
            | no b ↦ ap element (get_or-set_other (set ws' i x) (i + 1) k y d a ∙ get_or-set_other ws' i k x d b) ∙ t.all k d (omega arith)
          ]
        ];
        here = λ k h. elim (dec_lt k n) [
          | yes l ↦ rw (stay (2 * k) (omega arith) (omega arith), stay (2 * k + 1) (omega arith) (omega arith)) (t.here k l)
          | no l ↦
              let e : k ≡ n = omega arith in
              rw (e, left, right, ← p0, ← p1, ← q0, ← q1) (other_root (pred m) (f c) (gamma 7 w n) a0 a1 b0 b1 (f x) (f y) (gamma_by m w n r (f c) low er ec) u)
        ];
      }

  pub slots_elements : (n : ℕ) (ws ws' : List W) → length ws ≡ 256 → 128 ≤ n → SlotsWritten element f (pred m) w ls rs n ws ws' → Elements element ws'
  slots_elements n ws ws' e h t = record { at = λ k d l. t.all k d (omega (arith, t.size)) }

  pub slots_all : (n : ℕ) (ws ws' : List W) → 128 ≤ n → SlotsWritten element f (pred m) w ls rs n ws ws' → BaseProducts 7 (pred m) w ls rs (held f ws')
  slots_all n ws ws' h t = record {
    at = λ i o l u.
        let e0 : i * 2 + 0 ≡ 2 * i = omega arith in
        let e1 : i * 2 + 1 ≡ 2 * i + 1 = omega arith in
        let here = t.here i (omega arith) in
        elim (ℕ_discrete o 0) [
          | yes e ↦ rw (e, products.two_first (gamma 7 w i) (λ k. ls (i * 2 + k)) (λ k. rs (i * 2 + k)), e0, e1) here.first
          | no ne ↦
              let e : o ≡ 1 = omega arith in
              rw (e, products.two_second (gamma 7 w i) (λ k. ls (i * 2 + k)) (λ k. rs (i * 2 + k)), e0, e1) here.second
        ];
  }
