-- Powers of w modulo suc neg, where w ^ (2 ^ L) is -1.
use Rattle.std.proofs.Common.{◌≡◌, ℕ, zero, suc, ◌+◌, ◌*◌, ◌/◌, ◌%◌, ◌^◌, ap, ◌∙◌, mul-zero, arith, pow-add}
use native.Mathlib.Nat.{pow-zero, pow-succ', div-add-mod}
use Rattle.algebra.specs.Congruence.{Same}
use Rattle.algebra.proofs.Modular.{same_of, same_sym, ◌⨾◌, same_by, same_mul, same_mul_left, same_pow}

pub one_pow : (k : ℕ) → 1 ^ k ≡ 1
one_pow zero = pow-zero 1
one_pow (suc k) = rw (pow-succ' 1 k, one_pow k)

pub pow_mul : (w a b : ℕ) → w ^ (a * b) ≡ (w ^ a) ^ b
pow_mul w a zero = rw (mul-zero a, pow-zero w, pow-zero (w ^ a))
pow_mul w a (suc b) =
    let e : a * suc b ≡ a + a * b = omega arith in
    rw (e, pow-add w a (a * b), pow-succ' (w ^ a) b, pow_mul w a b)

pub mul_pow : (a b n : ℕ) → (a * b) ^ n ≡ a ^ n * b ^ n
mul_pow a b zero = rw (pow-zero (a * b), pow-zero a, pow-zero b)
mul_pow a b (suc n) = rw (pow-succ' (a * b) n, pow-succ' a n, pow-succ' b n, mul_pow a b n) (omega arith)

module _ {neg : ℕ} (L w : ℕ) (root : Same neg (w ^ (2 ^ L)) neg) where
  pub pow_order : Same neg (w ^ (2 ^ suc L)) 1
  pow_order =
      let e : 2 ^ suc L ≡ 2 ^ L + 2 ^ L = omega arith in
      same_of (ap (λ t. w ^ t) e ∙ pow-add w (2 ^ L) (2 ^ L)) ⨾ same_mul root root ⨾ same_by 1 neg (omega arith)

  -- multiples of the order
  pub pow_turns : (e k : ℕ) → Same neg (w ^ (e + 2 ^ suc L * k)) (w ^ e)
  pow_turns e k =
      same_of (pow-add w e (2 ^ suc L * k))
      ⨾ same_mul_left (w ^ e) (same_of (pow_mul w (2 ^ suc L) k) ⨾ same_pow pow_order k ⨾ same_of (one_pow k))
      ⨾ same_of (omega arith)

  pub pow_mod : (e : ℕ) → Same neg (w ^ e) (w ^ (e % 2 ^ suc L))
  pow_mod e =
      let d : e ≡ e % 2 ^ suc L + 2 ^ suc L * (e / 2 ^ suc L) = omega (arith, div-add-mod e (2 ^ suc L)) in
      same_of (ap (λ t. w ^ t) d) ⨾ pow_turns (e % 2 ^ suc L) (e / 2 ^ suc L)

  pub pow_of_mod : (d e : ℕ) → d % 2 ^ suc L ≡ e % 2 ^ suc L → Same neg (w ^ d) (w ^ e)
  pow_of_mod d e h = pow_mod d ⨾ same_of (ap (λ t. w ^ t) h) ⨾ same_sym (pow_mod e)

  -- an exponent raised by half the order turns the sign
  pub pow_half : (e : ℕ) → Same neg (w ^ (e + 2 ^ L)) (neg * w ^ e)
  pow_half e = same_of (pow-add w e (2 ^ L)) ⨾ same_mul_left (w ^ e) root ⨾ same_of (omega arith)
