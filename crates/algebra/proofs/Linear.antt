-- The layers respect equality modulo suc neg, and a factor goes through them.
use Rattle.std.proofs.Common.{◌≡◌, ℕ, zero, suc, ◌+◌, ◌-◌, ◌*◌, ◌^◌, ◌<◌, ◌≤◌, arith, pow_pos}
use Rattle.algebra.specs.Congruence.{Same}
use Rattle.algebra.specs.Layers.{ForwardPairs, InversePairs, layers, inv_layers, ntt}
use Rattle.algebra.proofs.Modular.{same_of, same_sym, ◌⨾◌, same_add, same_mul_left}
use Rattle.algebra.proofs.Layers.{in_halves, forward_is, inverse_is}
use Rattle.algebra.proofs.Inverse.{at_low, at_high, whole}
use Rattle.algebra.proofs.Steps.{zeta, zeta_back, layers_zero, layers_suc, inv_layers_zero, inv_layers_suc}

module _ {neg : ℕ} (len count : ℕ) (pos : 0 < len) (z : ℕ → ℕ) (c : ℕ) (f g f' g' : ℕ → ℕ)
    (e : (j : ℕ) → j < count * (2 * len) → Same neg (f j) (c * g j)) where
  pub forward_scale : ForwardPairs neg len count z f f' → ForwardPairs neg len count z g g' → (j : ℕ) → j < count * (2 * len) → Same neg (f' j) (c * g' j)
  forward_scale F G =
      in_halves len count pos (λ j. Same neg (f' j) (c * g' j))
      (λ b o k l.
      F.low b o k l ⨾ same_add (e _ (at_low len count b o k l)) (same_mul_left (z b) (e _ (at_high len count b o k l)))
      ⨾ same_of (omega arith) ⨾ same_mul_left c (same_sym (G.low b o k l)))
      (λ b o k l.
      F.high b o k l ⨾ same_add (e _ (at_low len count b o k l)) (same_mul_left neg (same_mul_left (z b) (e _ (at_high len count b o k l))))
      ⨾ same_of (omega arith) ⨾ same_mul_left c (same_sym (G.high b o k l)))

  pub inverse_scale : InversePairs neg len count z f f' → InversePairs neg len count z g g' → (j : ℕ) → j < count * (2 * len) → Same neg (f' j) (c * g' j)
  inverse_scale F G =
      in_halves len count pos (λ j. Same neg (f' j) (c * g' j))
      (λ b o k l.
      F.low b o k l ⨾ same_add (e _ (at_low len count b o k l)) (e _ (at_high len count b o k l))
      ⨾ same_of (omega arith) ⨾ same_mul_left c (same_sym (G.low b o k l)))
      (λ b o k l.
      F.high b o k l ⨾ same_mul_left (z b) (same_add (e _ (at_high len count b o k l)) (same_mul_left neg (e _ (at_low len count b o k l))))
      ⨾ same_of (omega arith) ⨾ same_mul_left c (same_sym (G.high b o k l)))

module _ {neg : ℕ} (L w : ℕ) (top : L ≤ 8) (c : ℕ) (f g : ℕ → ℕ) (e : (j : ℕ) → j < 256 → Same neg (f j) (c * g j)) where
  pub layers_scale : (t : ℕ) → t ≤ L → (j : ℕ) → j < 256 → Same neg (layers L neg w t f j) (c * layers L neg w t g j)
  layers_scale zero l j k = rw (layers_zero L neg w f, layers_zero L neg w g) (e j k)
  layers_scale (suc t) l j k =
      let len : ℕ = 2 ^ (7 - t) in
      let all : 2 ^ t * (2 * len) ≡ 256 = whole t (omega arith) in
      rw (layers_suc L neg w t f, layers_suc L neg w t g)
      (forward_scale len (2 ^ t) (pow_pos (7 - t)) (zeta L w t) c (layers L neg w t f) (layers L neg w t g) _ _
      (λ i q. layers_scale t (omega arith) i (omega arith))
      (forward_is neg len (2 ^ t) (zeta L w t) (layers L neg w t f)) (forward_is neg len (2 ^ t) (zeta L w t) (layers L neg w t g)) j (omega arith))

  pub inv_layers_scale : (s t : ℕ) → s + t ≡ L → (j : ℕ) → j < 256 → Same neg (inv_layers L neg w s f j) (c * inv_layers L neg w s g j)
  inv_layers_scale zero t l j k = rw (inv_layers_zero L neg w f, inv_layers_zero L neg w g) (e j k)
  inv_layers_scale (suc s) t l j k =
      let len : ℕ = 2 ^ (7 - t) in
      let all : 2 ^ t * (2 * len) ≡ 256 = whole t (omega arith) in
      let m : s + suc t ≡ L = omega arith in
      rw (inv_layers_suc L neg w s t f top m, inv_layers_suc L neg w s t g top m)
      (inverse_scale len (2 ^ t) (pow_pos (7 - t)) (zeta_back L w t) c (inv_layers L neg w s f) (inv_layers L neg w s g) _ _
      (λ i q. inv_layers_scale s (suc t) m i (omega arith))
      (inverse_is neg len (2 ^ t) (zeta_back L w t) (inv_layers L neg w s f)) (inverse_is neg len (2 ^ t) (zeta_back L w t) (inv_layers L neg w s g)) j (omega arith))

-- the transform of zeros is zeros
pub ntt_zero : {neg : ℕ} (L w : ℕ) → L ≤ 8 → (f : ℕ → ℕ) → ((j : ℕ) → j < 256 → Same neg (f j) 0) → (j : ℕ) → j < 256 → Same neg (ntt L neg w f j) 0
unfolding ntt
ntt_zero L w top f e j k =
    layers_scale L w top 0 f f (λ i h. e i h ⨾ same_of (omega arith)) L (omega arith) j k ⨾ same_of (omega arith)
