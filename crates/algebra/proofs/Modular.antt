-- Equality modulo suc neg is an equivalence, and a congruence for + and *.
use Rattle.std.proofs.Common.{◌≡◌, ℕ, zero, suc, ◌+◌, ◌-◌, ◌*◌, ◌/◌, ◌%◌, ◌^◌, ◌<◌, ◌≤◌, sym, refl, ap, ◌∙◌, mod-eq_of_lt, arith}
use native.Mathlib.Nat.{add-mul-mod_self_left, div-add-mod, mod-mod, pow-zero, pow-succ'}
use Rattle.algebra.specs.Congruence.{Same}

pub same_refl : {neg x : ℕ} → Same neg x x
same_refl = record { same = refl }

pub same_of : {neg x y : ℕ} → x ≡ y → Same neg x y
same_of {neg} e = record { same = ap (λ t. t % suc neg) e }

pub same_sym : {neg x y : ℕ} → Same neg x y → Same neg y x
same_sym h = record { same = sym h.same }

pub same_trans : {neg x y z : ℕ} → Same neg x y → Same neg y z → Same neg x z
same_trans h k = record { same = h.same ∙ k.same }

infixr 20 ◌⨾◌
-- a chain: one step after the other
pub ◌⨾◌ : {neg x y z : ℕ} → Same neg x y → Same neg y z → Same neg x z
h ⨾ k = same_trans h k

-- the one rule by which an identity is proved: name the multiples of the modulus
pub same_by : {neg x y : ℕ} (k l : ℕ) → x + suc neg * k ≡ y + suc neg * l → Same neg x y
same_by {neg} {x} {y} k l e =
    record { same = sym (add-mul-mod_self_left x (suc neg) k) ∙ ap (λ t. t % suc neg) e ∙ add-mul-mod_self_left y (suc neg) l }

-- and back: the multiples
pub multiples : {neg x y : ℕ} → Same neg x y → x + suc neg * (y / suc neg) ≡ y + suc neg * (x / suc neg)
multiples {neg} {x} {y} h = omega (arith, div-add-mod x (suc neg), div-add-mod y (suc neg), h.same)

pub same_add : {neg a b c d : ℕ} → Same neg a b → Same neg c d → Same neg (a + c) (b + d)
same_add {neg} {a} {b} {c} {d} h k =
    same_by (b / suc neg + d / suc neg) (a / suc neg + c / suc neg) (omega (arith, multiples h, multiples k))

pub same_mul_left : {neg a b : ℕ} (c : ℕ) → Same neg a b → Same neg (c * a) (c * b)
same_mul_left {neg} {a} {b} c h =
    same_by (c * (b / suc neg)) (c * (a / suc neg)) (omega (arith, ap (λ t. c * t) (multiples h)))

pub same_mul_right : {neg a b : ℕ} (c : ℕ) → Same neg a b → Same neg (a * c) (b * c)
same_mul_right {neg} {a} {b} c h =
    same_by (c * (b / suc neg)) (c * (a / suc neg)) (omega (arith, ap (λ t. c * t) (multiples h)))

pub same_mul : {neg a b c d : ℕ} → Same neg a b → Same neg c d → Same neg (a * c) (b * d)
same_mul {neg} {a} {b} {c} {d} h k = same_trans (same_mul_right c h) (same_mul_left b k)

pub same_pow : {neg a b : ℕ} → Same neg a b → (n : ℕ) → Same neg (a ^ n) (b ^ n)
same_pow {neg} {a} {b} h zero = same_of (pow-zero a ∙ sym (pow-zero b))
same_pow {neg} {a} {b} h (suc n) = rw (pow-succ' a n, pow-succ' b n) (same_mul h (same_pow h n))

-- from code: a remainder, a difference, and back to an equation
pub same_mod : {neg : ℕ} (x : ℕ) → Same neg (x % suc neg) x
same_mod {neg} x = record { same = mod-mod x (suc neg) }

pub same_sub : {neg : ℕ} (a t : ℕ) → t ≤ suc neg → Same neg (a + (suc neg - t)) (a + neg * t)
same_sub a t h = same_by t 1 (omega arith)

pub same_eq : {neg x y : ℕ} → Same neg x y → x < suc neg → y < suc neg → x ≡ y
same_eq h k l = sym (mod-eq_of_lt k) ∙ h.same ∙ mod-eq_of_lt l

pub ruleset modular = (same_refl, same_trans, same_add, same_mul, same_pow)
