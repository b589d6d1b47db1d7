-- What can be cancelled modulo suc neg.
use Rattle.std.proofs.Common.{◌≡◌, ℕ, ◌+◌, ◌*◌, ◌%◌, ◌^◌, sym, arith, pow-add}
use native.Mathlib.Nat.{pow-zero}
use Rattle.algebra.specs.Congruence.{Same}
use Rattle.algebra.proofs.Modular.{same_of, same_refl, same_sym, ◌⨾◌, same_by, same_add, same_mul_left, same_mul_right}
use Rattle.algebra.proofs.Powers.{pow_of_mod}

pub cancel_add : {neg : ℕ} (x y z : ℕ) → Same neg (x + z) (y + z) → Same neg x y
cancel_add {neg} x y z h = same_by {y = x + z + neg * z} z 0 (omega arith) ⨾ same_add h same_refl ⨾ same_by 0 z (omega arith)

pub cancel_minus : {neg : ℕ} (x y z : ℕ) → Same neg (z + neg * x) (z + neg * y) → Same neg x y
cancel_minus {neg} x y z h =
    same_sym (cancel_add y x z
    (same_by {y = z + neg * x + (x + y)} x 0 (omega arith) ⨾ same_add h same_refl ⨾ same_by {x = z + neg * y + (x + y)} 0 y (omega arith)))

-- a factor that has an inverse
pub cancel_factor : {neg : ℕ} (c d x y : ℕ) → Same neg (d * c) 1 → Same neg (c * x) (c * y) → Same neg x y
cancel_factor c d x y unit h =
    same_of {y = 1 * x} (omega arith) ⨾ same_mul_right x (same_sym unit) ⨾ same_of {y = d * (c * x)} (omega arith)
    ⨾ same_mul_left d h ⨾ same_of {y = d * c * y} (omega arith) ⨾ same_mul_right y unit ⨾ same_of (omega arith)

-- the sum and the difference of two numbers give both
module _ {neg : ℕ} (half : ℕ) (two : Same neg (half * 2) 1) where
  pub from_both_first : (a b a' b' : ℕ) → Same neg (a + b) (a' + b') → Same neg (a + neg * b) (a' + neg * b') → Same neg a a'
  from_both_first a b a' b' s d =
      cancel_factor 2 half a a' two
      (same_by {y = a + b + (a + neg * b)} b 0 (omega arith) ⨾ same_add s d ⨾ same_by {x = a' + b' + (a' + neg * b')} 0 b' (omega arith))

  pub from_both_second : (a b a' b' : ℕ) → Same neg (a + b) (a' + b') → Same neg (a + neg * b) (a' + neg * b') → Same neg b b'
  from_both_second a b a' b' s d =
      cancel_factor 2 half b b' two
      (same_by {y = a + b + neg * (a + neg * b)} (a + neg * b) b (omega arith)
      ⨾ same_add s (same_mul_left neg d)
      ⨾ same_by {x = a' + b' + neg * (a' + neg * b')} b' (a' + neg * b') (omega arith))

-- a power of the root
pub cancel_power : {neg : ℕ} (w : ℕ) → Same neg (w ^ (2 ^ 7)) neg → (k x y : ℕ) → Same neg (w ^ k * x) (w ^ k * y) → Same neg x y
cancel_power w root k x y h =
    let e : (255 * k + k) % 2 ^ 8 ≡ 0 % 2 ^ 8 = omega arith in
    cancel_factor (w ^ k) (w ^ (255 * k)) x y
    (same_of (sym (pow-add w (255 * k) k)) ⨾ pow_of_mod 7 w root (255 * k + k) 0 e ⨾ same_of (pow-zero w)) h
