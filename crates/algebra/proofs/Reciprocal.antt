-- A remainder without a division, from the high half of a product: with r the whole part of base / m,
-- the whole part of x * r / base is the quotient of x by m, or one less.
use Rattle.std.proofs.Common.{◌≡◌, ℕ, ◌+◌, ◌-◌, ◌*◌, ◌/◌, ◌%◌, ◌<◌, ◌≤◌, sym, ap, ◌∙◌, mod-lt, mod-eq_of_lt, mul-le-mul, arith}
use native.Mathlib.Nat.{div-add-mod, mul-add-mod_self_left, mul-lt-mul_of_pos_left, le_of_mul-le-mul_left, lt_of_mul-lt-mul_left}

module _ (base m x : ℕ) where
  abbrev pub reciprocal : ℕ
  reciprocal = base / m

  abbrev pub guess : ℕ
  guess = (x * reciprocal) / base

  pub guess_low : 0 < base → guess * m ≤ x
  guess_low some =
      let i : m * (base / m) + base % m ≡ base = div-add-mod base m in
      let ii : base * guess + (x * reciprocal) % base ≡ x * reciprocal = div-add-mod (x * reciprocal) base in
      le_of_mul-le-mul_left {m = guess * m} {n = x} {k = base}
      (omega (arith, ap (λ (y : ℕ). x * y) i, ap (λ (y : ℕ). m * y) ii))
      some

  pub guess_high : 0 < m → x < base → x < guess * m + 2 * m
  guess_high some h =
      let i : m * (base / m) + base % m ≡ base = div-add-mod base m in
      let ii : base * guess + (x * reciprocal) % base ≡ x * reciprocal = div-add-mod (x * reciprocal) base in
      let iii : m * ((x * reciprocal) % base) < m * base = mul-lt-mul_of_pos_left (mod-lt (x * reciprocal) (omega arith)) some in
      let le1 : x ≤ base = omega arith in
      let le2 : base % m ≤ m = omega (arith, mod-lt base some) in
      let iv : x * (base % m) ≤ base * m = mul-le-mul le1 le2 in
      lt_of_mul-lt-mul_left base {m = x} {n = guess * m + 2 * m}
      (omega (arith, ap (λ (y : ℕ). x * y) i, ap (λ (y : ℕ). m * y) ii))

-- a number less a multiple of m
pub rest_mod : (x q m : ℕ) → q * m ≤ x → (x - q * m) % m ≡ x % m
rest_mod x q m h =
    let whole : m * q + (x - q * m) ≡ x = omega arith in
    sym (mul-add-mod_self_left m q (x - q * m)) ∙ ap (λ (y : ℕ). y % m) whole

pub rest_below : (x q m : ℕ) → q * m ≤ x → x - q * m < m → x - q * m ≡ x % m
rest_below x q m h k = sym (mod-eq_of_lt k) ∙ rest_mod x q m h

pub rest_above : (x q m : ℕ) → q * m ≤ x → m ≤ x - q * m → x < q * m + 2 * m → (x - q * m) - m ≡ x % m
rest_above x q m h k l =
    let one : (q + 1) * m ≤ x = omega arith in
    let same : (x - q * m) - m ≡ x - (q + 1) * m = omega arith in
    let less : x - (q + 1) * m < m = omega arith in
    same ∙ rest_below x (q + 1) m one less

-- the same with the reciprocal held in r
module _ (base m x r : ℕ) (e : r ≡ base / m) where
  pub quotient_low : 0 < base → ((x * r) / base) * m ≤ x
  quotient_low some = rw e (guess_low base m x some)

  pub quotient_high : 0 < m → x < base → x < ((x * r) / base) * m + 2 * m
  quotient_high some h = rw e (guess_high base m x some h)
