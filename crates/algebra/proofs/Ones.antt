-- The polynomial of all ones, J, modulo X ^ 256 + 1: its square, and that a product with it determines the factor.
use Rattle.std.proofs.Common.{◌≡◌, ℕ, zero, suc, ◌+◌, ◌-◌, ◌*◌, ◌<◌, ap, ◌∙◌, ap₂, arith}
use Rattle.algebra.specs.Congruence.{Same}
use Rattle.algebra.specs.Sum.{sum}
use Rattle.algebra.specs.Product.{turned, product_mod, product, ones, one_less_x}
use Rattle.algebra.proofs.Modular.{same_of, same_sym, ◌⨾◌, same_by, same_add, same_mul_left, same_mul_right}
use Rattle.algebra.proofs.Sums.{sum_zero, sum_suc, sum_first, sum_cong, sum_scale, sum_split, sum_ones, sum_zeros}
use Rattle.algebra.proofs.Turned.{turned_low, turned_high}

-- the coefficients after k
after : (ℕ → ℕ) → ℕ → ℕ
after e k = sum (255 - k) (λ i. e (suc k + i))

after_suc : (e : ℕ → ℕ) (k : ℕ) → k < 255 → after e k ≡ e (suc k) + after e (suc k)
unfolding after
after_suc e k h =
    let n : 255 - k ≡ suc (255 - suc k) = omega arith in
    let z : suc k + 0 ≡ suc k = omega arith in
    ap (λ m. sum m (λ i. e (suc k + i))) n ∙ sum_first (255 - suc k) (λ i. e (suc k + i))
    ∙ ap₂ ◌+◌ (ap e z) (sum_cong (255 - suc k) _ _ (λ i l. ap e (omega arith)))

after_first : (e : ℕ → ℕ) → sum 256 e ≡ e 0 + after e 0
unfolding after
after_first e = sum_first 255 e ∙ ap (λ t. e 0 + t) (sum_cong 255 _ _ (λ i l. ap e (omega arith)))

after_last : (e : ℕ → ℕ) → after e 255 ≡ 0
unfolding after
after_last e = sum_zero _

module _ (neg : ℕ) where
  times_ones : (e : ℕ → ℕ) (k : ℕ) → k < 256 → product neg e ones k ≡ sum (suc k) e + neg * after e k
  unfolding product_mod after
  times_ones e k h =
      let n : 256 ≡ suc k + (255 - k) = omega arith in
      let F : ℕ → ℕ = λ i. e i * turned 256 neg ones i k in
      ap (λ m. sum m F) n ∙ sum_split (suc k) (255 - k) F
      ∙ ap₂ ◌+◌
      (sum_cong (suc k) _ _ (λ i l. ap (λ t. e i * t) (turned_high 256 neg ones i k (omega arith)) ∙ omega arith))
      (sum_cong (255 - k) _ _ (λ i l. ap (λ t. e (suc k + i) * t) (turned_low 256 neg ones (suc k + i) k (omega arith)) ∙ omega arith)
      ∙ sum_scale (255 - k) neg (λ i. e (suc k + i)))

  pub ones_square : (k : ℕ) → k < 256 → Same neg (product neg ones ones k + 254) (2 * k)
  unfolding after
  ones_square k h =
      same_of (ap (λ t. t + 254) (times_ones ones k h ∙ ap₂ (λ s t. s + neg * t) (sum_ones (suc k)) (sum_ones (255 - k))))
      ⨾ go (255 - k) (omega arith)
    where
      go : (d : ℕ) → k + d ≡ 255 → Same neg (suc k + neg * d + 254) (2 * k)
      go d e = same_by 0 d (omega arith)

  -- (1 - X) J = 2: twice the factor, from the product
  pub recover_first : (e : ℕ → ℕ) → Same neg (product neg e ones 0 + product neg e ones 255) (2 * e 0)
  recover_first e =
      same_of (ap₂ ◌+◌ (times_ones e 0 (omega arith)) (times_ones e 255 (omega arith)))
      ⨾ rw (after_last e, after_first e, sum_suc 0 e, sum_zero e) (same_by 0 (after e 0) (omega arith))

  pub recover_next : (e : ℕ → ℕ) (k : ℕ) → k < 255 → Same neg (product neg e ones (suc k) + neg * product neg e ones k) (2 * e (suc k))
  recover_next e k h =
      same_of (ap₂ (λ s t. s + neg * t) (times_ones e (suc k) (omega arith)) (times_ones e k (omega arith)))
      ⨾ rw (after_suc e k h, sum_suc (suc k) e)
      (same_by (e (suc k)) (sum (suc k) e + neg * after e (suc k) + neg * e (suc k)) (omega arith))

  halve : (half : ℕ) → Same neg (half * 2) 1 → {x y : ℕ} → Same neg (2 * x) (2 * y) → Same neg x y
  halve half two {x} {y} h =
      same_of {y = 1 * x} (omega arith) ⨾ same_mul_right x (same_sym two) ⨾ same_of {y = half * (2 * x)} (omega arith)
      ⨾ same_mul_left half h ⨾ same_of {y = half * 2 * y} (omega arith) ⨾ same_mul_right y two ⨾ same_of (omega arith)

  -- an odd modulus: half of neg, and one
  pub half_of : (h : ℕ) → neg ≡ 2 * h → Same neg (suc h * 2) 1
  half_of h e = same_by 0 1 (omega arith)

  pub by_ones : (half : ℕ) → Same neg (half * 2) 1 → (e d : ℕ → ℕ) →
      ((k : ℕ) → k < 256 → Same neg (product neg e ones k) (product neg d ones k)) → (k : ℕ) → k < 256 → Same neg (e k) (d k)
  by_ones half two e d h zero l =
      halve half two (same_sym (recover_first e) ⨾ same_add (h 0 (omega arith)) (h 255 (omega arith)) ⨾ recover_first d)
  by_ones half two e d h (suc k) l =
      halve half two
      (same_sym (recover_next e k (omega arith)) ⨾ same_add (h (suc k) l) (same_mul_left neg (h k (omega arith)))
      ⨾ recover_next d k (omega arith))

-- (1 - X) J is 2
module _ (neg : ℕ) where
  x_sum : (k : ℕ) → sum (suc (suc k)) (one_less_x neg) ≡ neg + 1
  unfolding sum
  x_sum zero = omega arith
  x_sum (suc k) = omega (arith, x_sum k)

  x_after_suc : (k : ℕ) → after (one_less_x neg) (suc k) ≡ 0
  unfolding after
  x_after_suc k =
      sum_cong (255 - suc k) _ (λ i. 0) (λ i l.
      let e : suc (suc k) + i ≡ suc (suc (k + i)) = omega arith in
      ap (one_less_x neg) e)
      ∙ sum_zeros (255 - suc k)

  pub ones_times_first : Same neg (product neg (one_less_x neg) ones 0) 2
  ones_times_first =
      let a : after (one_less_x neg) 0 ≡ neg = omega (arith, after_first (one_less_x neg), x_sum 254) in
      same_of (times_ones neg (one_less_x neg) 0 (omega arith))
      ⨾ rw (sum_suc 0 (one_less_x neg), sum_zero (one_less_x neg), a) (same_by 1 neg (omega arith))

  pub ones_times_next : (k : ℕ) → k < 255 → Same neg (product neg (one_less_x neg) ones (suc k)) 0
  ones_times_next k h =
      same_of (times_ones neg (one_less_x neg) (suc k) (omega arith)) ⨾ rw (x_sum k, x_after_suc k) (same_by 0 1 (omega arith))
