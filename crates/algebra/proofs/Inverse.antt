-- A layer and its inverse, in either order, double; so L layers and their inverses give 2 ^ L times.
use Rattle.std.proofs.Common.{◌≡◌, ℕ, zero, suc, ◌+◌, ◌-◌, ◌*◌, ◌^◌, ◌<◌, ◌≤◌, sym, ap, ◌∙◌, arith, pow_pos, pow-add}
use native.Mathlib.Nat.{pow-succ'}
use lib.Arith.{digits_lt}
use Rattle.algebra.specs.Congruence.{Same}
use Rattle.algebra.specs.Layers.{forward, inverse, ForwardPairs, InversePairs, layers, inv_layers, ntt, inv_ntt}
use Rattle.algebra.proofs.Modular.{same_of, same_refl, ◌⨾◌, same_by, same_add, same_mul_left, same_mul_right}
use Rattle.algebra.proofs.Layers.{in_halves, forward_is, inverse_is}
use Rattle.algebra.proofs.Bits.{mirror}
use Rattle.algebra.proofs.Steps.{twist, twist_back, zeta, zeta_back, layers_zero, layers_suc, inv_layers_zero, inv_layers_suc}

-- the two butterflies, as identities of numbers
module _ {neg : ℕ} (y z : ℕ) (turn : Same neg (y * z) neg) (c a b : ℕ) where
  undo_low : Same neg (c * (a + z * b) + c * (a + neg * (z * b))) (2 * c * a)
  undo_low = same_by 0 (c * z * b) (omega arith)

  undo_high : Same neg (y * (c * (a + neg * (z * b)) + neg * (c * (a + z * b)))) (2 * c * b)
  undo_high =
      same_by {y = y * z * (2 * neg * c * b)} 0 (y * c * a) (omega arith)
      ⨾ same_mul_right (2 * neg * c * b) turn
      ⨾ same_by (2 * c * b) (2 * neg * c * b) (omega arith)

  redo_low : Same neg (c * (a + b) + z * (c * (y * (b + neg * a)))) (2 * c * a)
  redo_low =
      same_of {y = c * (a + b) + y * z * (c * (b + neg * a))} (omega arith)
      ⨾ same_add same_refl (same_mul_right (c * (b + neg * a)) turn)
      ⨾ same_by (c * a) (c * b + neg * c * a) (omega arith)

  redo_high : Same neg (c * (a + b) + neg * (z * (c * (y * (b + neg * a))))) (2 * c * b)
  redo_high =
      same_of {y = c * (a + b) + y * z * (neg * c * (b + neg * a))} (omega arith)
      ⨾ same_add same_refl (same_mul_right (neg * c * (b + neg * a)) turn)
      ⨾ same_by (c * b + neg * c * a) (neg * c * b + (neg * neg + 1) * c * a) (omega arith)

module _ (len count : ℕ) where
  pub at_low : (g o : ℕ) → g < count → o < len → g * (2 * len) + o < count * (2 * len)
  at_low g o k l = digits_lt k (omega arith)

  pub at_high : (g o : ℕ) → g < count → o < len → g * (2 * len) + o + len < count * (2 * len)
  at_high g o k l =
      let d : o + len < 2 * len = omega arith in
      omega (arith, digits_lt k d)

module _ {neg : ℕ} (len count : ℕ) (pos : 0 < len) (z y : ℕ → ℕ) (turn : (g : ℕ) → g < count → Same neg (y g * z g) neg) where
  pub undo : (c : ℕ) (f f' h h' : ℕ → ℕ) → ForwardPairs neg len count z f f' → InversePairs neg len count y h h' →
      ((j : ℕ) → j < count * (2 * len) → Same neg (h j) (c * f' j)) →
      (j : ℕ) → j < count * (2 * len) → Same neg (h' j) (2 * c * f j)
  undo c f f' h h' F I e =
      in_halves len count pos (λ j. Same neg (h' j) (2 * c * f j))
      (λ g o k l.
      I.low g o k l
      ⨾ same_add (e _ (at_low len count g o k l) ⨾ same_mul_left c (F.low g o k l)) (e _ (at_high len count g o k l) ⨾ same_mul_left c (F.high g o k l))
      ⨾ undo_low (y g) (z g) (turn g k) c _ _)
      (λ g o k l.
      I.high g o k l
      ⨾ same_mul_left (y g)
      (same_add (e _ (at_high len count g o k l) ⨾ same_mul_left c (F.high g o k l))
      (same_mul_left neg (e _ (at_low len count g o k l) ⨾ same_mul_left c (F.low g o k l))))
      ⨾ undo_high (y g) (z g) (turn g k) c _ _)

  pub redo : (c : ℕ) (f f' h h' : ℕ → ℕ) → InversePairs neg len count y h h' → ForwardPairs neg len count z f f' →
      ((j : ℕ) → j < count * (2 * len) → Same neg (f j) (c * h' j)) →
      (j : ℕ) → j < count * (2 * len) → Same neg (f' j) (2 * c * h j)
  redo c f f' h h' I F e =
      in_halves len count pos (λ j. Same neg (f' j) (2 * c * h j))
      (λ g o k l.
      F.low g o k l
      ⨾ same_add (e _ (at_low len count g o k l) ⨾ same_mul_left c (I.low g o k l))
      (same_mul_left (z g) (e _ (at_high len count g o k l) ⨾ same_mul_left c (I.high g o k l)))
      ⨾ redo_low (y g) (z g) (turn g k) c _ _)
      (λ g o k l.
      F.high g o k l
      ⨾ same_add (e _ (at_low len count g o k l) ⨾ same_mul_left c (I.low g o k l))
      (same_mul_left neg (same_mul_left (z g) (e _ (at_high len count g o k l) ⨾ same_mul_left c (I.high g o k l))))
      ⨾ redo_high (y g) (z g) (turn g k) c _ _)

-- 2 ^ t groups of 2 * 2 ^ (7 - t) fill the 256
pub whole : (t : ℕ) → t < 8 → 2 ^ t * (2 * 2 ^ (7 - t)) ≡ 256
whole t h =
    let e : t + (7 - t) ≡ 7 = omega arith in
    let q : 2 ^ t * 2 ^ (7 - t) ≡ 128 = sym (pow-add 2 t (7 - t)) ∙ ap (λ n. 2 ^ n) e in
    omega arith

module _ {neg : ℕ} (L w : ℕ) (top : L ≤ 8) (root : Same neg (w ^ (2 ^ L)) neg) where
  pub turns : (t : ℕ) → t < L → (g : ℕ) → g < 2 ^ t → Same neg (zeta_back L w t g * zeta L w t g) neg
  unfolding zeta zeta_back
  turns t h g k = same_of (sym (pow-add w (twist_back L t g) (twist L t g)) ∙ ap (λ n. w ^ n) (mirror L t g h k)) ⨾ root

  -- s layers of the inverse after all L layers undo the last s
  pub inverse_after_layers : (s t : ℕ) → s + t ≡ L → (f : ℕ → ℕ) (j : ℕ) → j < 256 →
      Same neg (inv_layers L neg w s (layers L neg w L f) j) (2 ^ s * layers L neg w t f j)
  inverse_after_layers zero t e f j k =
      let n : L ≡ t = omega arith in
      rw (inv_layers_zero L neg w (layers L neg w L f)) (same_of (ap (λ m. layers L neg w m f j) n ∙ omega arith))
  inverse_after_layers (suc s) t e f j k =
      let len : ℕ = 2 ^ (7 - t) in
      let all : 2 ^ t * (2 * len) ≡ 256 = whole t (omega arith) in
      let h : ℕ → ℕ = inv_layers L neg w s (layers L neg w L f) in
      let next : ℕ → ℕ = forward neg len (zeta L w t) (layers L neg w t f) in
      same_of (ap (λ q. q j) (inv_layers_suc L neg w s t (layers L neg w L f) top (omega arith)))
      ⨾ undo len (2 ^ t) (pow_pos (7 - t)) (zeta L w t) (zeta_back L w t) (turns t (omega arith)) (2 ^ s)
      (layers L neg w t f) next h (inverse neg len (zeta_back L w t) h)
      (forward_is neg len (2 ^ t) (zeta L w t) (layers L neg w t f)) (inverse_is neg len (2 ^ t) (zeta_back L w t) h)
      (λ i q. inverse_after_layers s (suc t) (omega arith) f i (omega arith)
      ⨾ same_of (ap (λ q. 2 ^ s * q i) (layers_suc L neg w t f))) j (omega arith)
      ⨾ same_of (rw (pow-succ' 2 s) (omega arith))

  -- t layers after the whole inverse undo its last t
  pub layers_after_inverse : (t s : ℕ) → s + t ≡ L → (f : ℕ → ℕ) (j : ℕ) → j < 256 →
      Same neg (layers L neg w t (inv_layers L neg w L f) j) (2 ^ t * inv_layers L neg w s f j)
  layers_after_inverse zero s e f j k =
      let n : L ≡ s = omega arith in
      rw (layers_zero L neg w (inv_layers L neg w L f)) (same_of (ap (λ m. inv_layers L neg w m f j) n ∙ omega arith))
  layers_after_inverse (suc t) s e f j k =
      let len : ℕ = 2 ^ (7 - t) in
      let all : 2 ^ t * (2 * len) ≡ 256 = whole t (omega arith) in
      let h : ℕ → ℕ = inv_layers L neg w s f in
      same_of (ap (λ q. q j) (layers_suc L neg w t (inv_layers L neg w L f)))
      ⨾ redo len (2 ^ t) (pow_pos (7 - t)) (zeta L w t) (zeta_back L w t) (turns t (omega arith)) (2 ^ t)
      (layers L neg w t (inv_layers L neg w L f)) _ h (inverse neg len (zeta_back L w t) h)
      (inverse_is neg len (2 ^ t) (zeta_back L w t) h) (forward_is neg len (2 ^ t) (zeta L w t) _)
      (λ i q. layers_after_inverse t (suc s) (omega arith) f i (omega arith)
      ⨾ same_of (ap (λ q. 2 ^ t * q i) (inv_layers_suc L neg w s t f top e))) j (omega arith)
      ⨾ same_of (rw (pow-succ' 2 t) (omega arith))

  -- the L layers, and the inverse's L and its factor
  pub inv_ntt_ntt : (i : ℕ) → Same neg (i * 2 ^ L) 1 → (f : ℕ → ℕ) (j : ℕ) → j < 256 → Same neg (inv_ntt L neg w i (ntt L neg w f) j) (f j)
  unfolding ntt inv_ntt
  inv_ntt_ntt i h f j k =
      same_mul_left i (inverse_after_layers L 0 (omega arith) f j k ⨾ same_of (ap (λ q. 2 ^ L * q j) (layers_zero L neg w f)))
      ⨾ same_of {y = i * 2 ^ L * f j} (omega arith) ⨾ same_mul_right (f j) h ⨾ same_of (omega arith)

  -- and the other order, before the factor
  pub ntt_back : (h : ℕ → ℕ) (j : ℕ) → j < 256 → Same neg (ntt L neg w (inv_layers L neg w L h) j) (2 ^ L * h j)
  unfolding ntt
  ntt_back h j k = layers_after_inverse L 0 (omega arith) h j k ⨾ same_of (ap (λ q. 2 ^ L * q j) (inv_layers_zero L neg w h))
