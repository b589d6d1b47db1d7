-- The L layers are the slot transform: after t layers each block is f modulo X ^ len - c.
use Rattle.std.proofs.Common.{◌≡◌, ℕ, zero, suc, ◌+◌, ◌-◌, ◌*◌, ◌/◌, ◌%◌, ◌^◌, ◌<◌, ◌≤◌, sym, refl, ap, ◌∙◌, subst, arith, pow_mono, pow-add}
use native.Mathlib.Nat.{pow-succ', pow-zero}
use Rattle.algebra.specs.Congruence.{Same}
use Rattle.algebra.specs.Sum.{sum}
use Rattle.algebra.specs.Layers.{bitrev, forward, ForwardPairs, layers, ntt}
use Rattle.algebra.specs.Slots.{size, gamma, slot}
use Rattle.algebra.proofs.Modular.{same_of, same_sym, ◌⨾◌, same_by, same_add, same_mul, same_mul_left, same_pow}
use Rattle.algebra.proofs.Sums.{sum_zero, sum_suc, sum_cong, sum_same, sum_scale, sum_halves}
use Rattle.algebra.proofs.Powers.{mul_pow, pow_half}
use Rattle.algebra.proofs.Layers.{forward_is}
use Rattle.algebra.proofs.Bits.{rev_suc, rev_double, rev_slot}
use Rattle.algebra.proofs.Steps.{twist, zeta, layers_zero, layers_suc}

-- n blocks of len: the block g of h is f modulo X ^ len - c g
pub record Reduced (neg : ℕ) (c f : ℕ → ℕ) (n len : ℕ) (h : ℕ → ℕ) : Type 0 where
  pub block : (g o : ℕ) → g < n → o < len → Same neg (h (g * len + o)) (sum n (λ i. f (i * len + o) * c g ^ i))

-- two halves of one block, joined
module _ {neg : ℕ} (len n : ℕ) (f : ℕ → ℕ) (c d : ℕ) (sq : Same neg c (d * d)) where
  squares : (i : ℕ) → Same neg (c ^ i) (d ^ (i + i))
  squares i = same_pow sq i ⨾ same_of (mul_pow d d i ∙ sym (pow-add d i i))

  even_term : (o i : ℕ) → Same neg (f (i * (2 * len) + o) * c ^ i) (f ((i + i) * len + o) * d ^ (i + i))
  even_term o i =
      let e : i * (2 * len) + o ≡ (i + i) * len + o = omega arith in
      same_mul (same_of (ap f e)) (squares i)

  odd_term : (o i : ℕ) → Same neg (d * (f (i * (2 * len) + o + len) * c ^ i)) (f ((i + i + 1) * len + o) * d ^ (i + i + 1))
  odd_term o i =
      let e : i * (2 * len) + o + len ≡ (i + i + 1) * len + o = omega arith in
      let s : i + i + 1 ≡ suc (i + i) = omega arith in
      let r : d ^ (i + i + 1) ≡ d * d ^ (i + i) = ap (λ k. d ^ k) s ∙ pow-succ' d (i + i) in
      same_mul_left d (same_mul (same_of (ap f e)) (squares i)) ⨾ same_of (rw r (omega arith))

  pub joined : (o : ℕ) →
      Same neg (sum n (λ i. f (i * (2 * len) + o) * c ^ i) + d * sum n (λ i. f (i * (2 * len) + o + len) * c ^ i))
      (sum (n + n) (λ i. f (i * len + o) * d ^ i))
  joined o =
      same_add (sum_same n _ _ (λ i h. even_term o i))
      (same_of (sym (sum_scale n d (λ i. f (i * (2 * len) + o + len) * c ^ i))) ⨾ sum_same n _ _ (λ i h. odd_term o i))
      ⨾ same_of (sym (sum_halves n (λ i. f (i * len + o) * d ^ i)))

pub by_parity : (P : ℕ → Type 0) → ((g : ℕ) → P (2 * g)) → ((g : ℕ) → P (2 * g + 1)) → (n : ℕ) → P n
by_parity P even odd n = go (n % 2) refl
  where
    go : (r : ℕ) → n % 2 ≡ r → P n
    go zero e = subst P (omega arith) (even (n / 2))
    go (suc r) e = subst P (omega arith) (odd (n / 2))

module _ {neg : ℕ} (len n : ℕ) (f : ℕ → ℕ) (c d c' h h' : ℕ → ℕ)
    (sq : (g : ℕ) → g < n → Same neg (c g) (d g * d g))
    (even : (g : ℕ) → g < n → Same neg (c' (2 * g)) (d g))
    (odd : (g : ℕ) → g < n → Same neg (c' (2 * g + 1)) (neg * d g)) where
  upper : Reduced neg c f n (2 * len) h → (g o : ℕ) → g < n → o < len →
      Same neg (h (g * (2 * len) + o + len)) (sum n (λ i. f (i * (2 * len) + o + len) * c g ^ i))
  upper R g o k l =
      let e : (i : ℕ) → i * (2 * len) + (o + len) ≡ i * (2 * len) + o + len = λ i. omega arith in
      same_of (sym (ap h (e g))) ⨾ R.block g (o + len) k (omega arith)
      ⨾ same_of (sum_cong n _ _ (λ i q. ap (λ x. f x * c g ^ i) (e i)))

  other_root : {a b : ℕ} (m : ℕ) (q : ℕ → ℕ) → Same neg a b → Same neg (sum m (λ i. q i * a ^ i)) (sum m (λ i. q i * b ^ i))
  other_root m q e = sum_same m _ _ (λ i k. same_mul_left (q i) (same_pow e i))

  pub reduce_step : Reduced neg c f n (2 * len) h → ForwardPairs neg len n d h h' → Reduced neg c' f (n + n) len h'
  reduce_step R F =
      record {
        block = λ g o k l.
            by_parity (λ g. g < n + n → Same neg (h' (g * len + o)) (sum (n + n) (λ i. f (i * len + o) * c' g ^ i)))
            (λ g k.
            let u : g < n = omega arith in
            let e : 2 * g * len + o ≡ g * (2 * len) + o = omega arith in
            same_of (ap h' e) ⨾ F.low g o u l
            ⨾ same_add (R.block g o u (omega arith)) (same_mul_left (d g) (upper R g o u l))
            ⨾ joined len n f (c g) (d g) (sq g u) o
            ⨾ other_root (n + n) (λ i. f (i * len + o)) (same_sym (even g u)))
            (λ g k.
            let u : g < n = omega arith in
            let e : (2 * g + 1) * len + o ≡ g * (2 * len) + o + len = omega arith in
            same_of (ap h' e) ⨾ F.high g o u l
            ⨾ same_add (R.block g o u (omega arith)) (same_mul_left neg (same_mul_left (d g) (upper R g o u l)) ⨾ same_of (omega arith))
            ⨾ joined len n f (c g) (neg * d g) (sq g u ⨾ same_by (d g * d g * neg) (d g * d g) (omega arith)) o
            ⨾ other_root (n + n) (λ i. f (i * len + o)) (same_sym (odd g u)))
            g k;
      }

-- the exponents: a block's root is that of its two halves, squared
block_root : (L w t g : ℕ) → ℕ
block_root L w t g = w ^ bitrev (suc L) (2 ^ t + g)

module _ {neg : ℕ} (L w : ℕ) (top : L ≤ 8) (root : Same neg (w ^ (2 ^ L)) neg) where
  root_square : (t g : ℕ) → t < L → g < 2 ^ t → Same neg (block_root L w t g) (zeta L w t g * zeta L w t g)
  unfolding block_root zeta twist
  root_square t g h k =
      let m : 2 ^ suc t ≤ 2 ^ L = pow_mono h in
      let x : ℕ = bitrev L (2 ^ t + g) in
      let e : bitrev (suc L) (2 ^ t + g) ≡ x + x = omega (arith, rev_double L (2 ^ t + g) (omega arith)) in
      same_of (ap (λ n. w ^ n) e ∙ pow-add w x x)

  root_even : (t g : ℕ) → Same neg (block_root L w (suc t) (2 * g)) (zeta L w t g)
  unfolding block_root zeta twist
  root_even t g =
      let x : ℕ = 2 ^ suc t + 2 * g in
      let d : x / 2 ≡ 2 ^ t + g = omega arith in
      let r : x % 2 ≡ 0 = omega arith in
      let e : bitrev (suc L) x ≡ bitrev L (2 ^ t + g) = rw (rev_suc L x, d, r) (omega arith) in
      same_of (ap (λ n. w ^ n) e)

  root_odd : (t g : ℕ) → Same neg (block_root L w (suc t) (2 * g + 1)) (neg * zeta L w t g)
  unfolding block_root zeta twist
  root_odd t g =
      let x : ℕ = 2 ^ suc t + (2 * g + 1) in
      let d : x / 2 ≡ 2 ^ t + g = omega arith in
      let r : x % 2 ≡ 1 = omega arith in
      let e : bitrev (suc L) x ≡ bitrev L (2 ^ t + g) + 2 ^ L = rw (rev_suc L x, d, r) (omega arith) in
      same_of (ap (λ n. w ^ n) e) ⨾ pow_half L w root (bitrev L (2 ^ t + g))

  reduced : (t : ℕ) → t ≤ L → (f : ℕ → ℕ) → Reduced neg (block_root L w t) f (2 ^ t) (2 ^ (8 - t)) (layers L neg w t f)
  reduced zero l f =
      rw (layers_zero L neg w f)
      (record {
        block = λ g o k l.
            let F : ℕ → ℕ = λ i. f (i * 256 + o) * block_root L w 0 g ^ i in
            let e : g * 256 + o ≡ 0 * 256 + o = omega arith in
            same_of (rw (sum_suc 0 F, sum_zero F, pow-zero (block_root L w 0 g)) (omega (arith, ap f e)));
      })
  reduced (suc t) l f =
      let s : 8 - t ≡ suc (7 - t) = omega arith in
      let a : 2 ^ (8 - t) ≡ 2 * 2 ^ (7 - t) = ap (λ n. 2 ^ n) s ∙ pow-succ' 2 (7 - t) in
      let b : 2 ^ (8 - suc t) ≡ 2 ^ (7 - t) = ap (λ n. 2 ^ n) (omega arith) in
      let c : 2 ^ suc t ≡ 2 ^ t + 2 ^ t = omega arith in
      rw (b, c, layers_suc L neg w t f)
      (reduce_step (2 ^ (7 - t)) (2 ^ t) f (block_root L w t) (zeta L w t) (block_root L w (suc t)) (layers L neg w t f) (forward neg (2 ^ (7 - t)) (zeta L w t) (layers L neg w t f))
      (λ g k. root_square t g (omega arith) k) (λ g k. root_even t g) (λ g k. root_odd t g)
      (rw a at (reduced t (omega arith) f)) (forward_is neg (2 ^ (7 - t)) (2 ^ t) (zeta L w t) (layers L neg w t f)))

  pub ntt_slots : (f : ℕ → ℕ) (i o : ℕ) → i < 2 ^ L → o < size L → Same neg (ntt L neg w f (i * size L + o)) (slot L w f i o)
  unfolding ntt slot gamma block_root
  ntt_slots f i o h k =
      (reduced L (omega arith) f).block i o h k
      ⨾ same_of (rw (rev_slot L i h) refl)
