-- Numbers below n * t by their remainders by n, and numbers below q * p by their remainders by q and p.
use Rattle.std.proofs.Common.{◌≡◌, ℕ, zero, suc, ◌+◌, ◌-◌, ◌*◌, ◌/◌, ◌%◌, ◌^◌, ◌<◌, ◌≤◌, ◌⊎◌, sym, ap, ◌∙◌, ap₂, ⊎_elim, add_assoc, mod-lt, mod-eq_of_lt, mul_assoc, mul_comm, mul-le-mul_left, pow-suc, mul-one, mul-add, mul_left_comm, arith}
use native.Mathlib.Decide.{dec_le}
use native.Mathlib.Nat.{add-mod, mod-mod, mod-add-mod, add-mod-mod, add-mod_right, add-mul-mod_self_left, mul-add-mod_self_left, add-mul-div_left, div-add-mod, dvd-mul_right, dvd-mul_left, mod-mod_of_dvd, div-eq_of_lt, pow-zero, mul-mod_right, lt_of_mul-lt-mul_left, mod-eq-sub-mod}
use Rattle.algebra.specs.Remainders.{joined}

-- a factor's remainder stands for the factor
pub mul_by_mod : (a b m : ℕ) → (a * (b % m)) % m ≡ (a * b) % m
mul_by_mod a b m =
    sym (mul-add-mod_self_left m (a * (b / m)) (a * (b % m)))
    ∙ ap (λ (x : ℕ). (x + a * (b % m)) % m) (mul_left_comm m a (b / m))
    ∙ ap (λ (x : ℕ). x % m) (sym (mul-add a (m * (b / m)) (b % m)))
    ∙ ap (λ (x : ℕ). (a * x) % m) (div-add-mod b m)

pub mul_both : (a b m : ℕ) → ((a % m) * (b % m)) % m ≡ (a * b) % m
mul_both a b m =
    mul_by_mod (a % m) b m ∙ ap (λ (x : ℕ). x % m) (mul_comm (a % m) b) ∙ mul_by_mod b a m ∙ ap (λ (x : ℕ). x % m) (mul_comm b a)

module _ (n t : ℕ) where
  -- n * t more means the same
  pub off : (w x : ℕ) → w + n * t ≡ x → w % n ≡ x % n
  off w x e = sym (add-mul-mod_self_left w n t) ∙ ap (λ (y : ℕ). y % n) e

  pub sum_low : (a b : ℕ) → (a + b) % n ≡ (a % n + b % n) % n
  sum_low a b = add-mod a b n

  pub sum_high : (a b w : ℕ) → w + n * t ≡ a + b → w % n ≡ (a % n + b % n) % n
  sum_high a b w e = off w (a + b) e ∙ add-mod a b n

  pub product_means : (a b r : ℕ) → r ≡ (a * b) % (n * t) → r % n ≡ ((a % n) * (b % n)) % n
  product_means a b r e =
      ap (λ (x : ℕ). x % n) e ∙ mod-mod_of_dvd n (a * b) (dvd-mul_right n t) ∙ sym (mul_both a b n)

  pub below_times : (b : ℕ) → b < n * t → b / n < t
  below_times b h = elim (dec_le t (b / n)) [
    | yes u ↦ omega (arith, mul-le-mul_left {m = t} {n = b / n} n u, div-add-mod b n)
    | no u ↦ omega arith
  ]

  gap : (b : ℕ) → 0 < n → b < n * t → n * t - b ≡ (n - b % n) + n * (t - (b / n + 1))
  gap b some h =
      let less : b / n < t = below_times b h in
      let split : t ≡ b / n + (1 + (t - (b / n + 1))) = omega arith in
      omega (
        arith,
        ap (λ (x : ℕ). n * x) split,
        mul-add n (b / n) (1 + (t - (b / n + 1))),
        mul-add n 1 (t - (b / n + 1)),
        mul-one n,
        div-add-mod b n,
        mod-lt b some,
      )

  -- a less b
  pub less_low : (a b : ℕ) → 0 < n → b < n * t → (a + (n * t - b)) % n ≡ (a % n + (n - b % n)) % n
  less_low a b some h =
      ap (λ (x : ℕ). (a + x) % n) (gap b some h)
      ∙ ap (λ (x : ℕ). x % n) (sym (add_assoc a (n - b % n) (n * (t - (b / n + 1)))))
      ∙ add-mul-mod_self_left (a + (n - b % n)) n (t - (b / n + 1))
      ∙ sym (mod-add-mod a n (n - b % n))

  pub less_high : (a b : ℕ) → 0 < n → b < n * t → b ≤ a → (a - b) % n ≡ (a % n + (n - b % n)) % n
  less_high a b some h k = off (a - b) (a + (n * t - b)) (omega arith) ∙ less_low a b some h

  -- the word with the meaning x and the number k
  pub word_mod : (x k : ℕ) → x < n → (x + n * k) % n ≡ x
  word_mod x k h = add-mul-mod_self_left x n k ∙ mod-eq_of_lt h

  pub word_div : (x k : ℕ) → x < n → (x + n * k) / n ≡ k
  word_div x k h = add-mul-div_left x k (omega arith) ∙ ap (λ (y : ℕ). y + k) (div-eq_of_lt h) ∙ omega arith

  pub word_below : (x k : ℕ) → x < n → k < t → x + n * k < n * t
  word_below x k h l =
      let up : k + 1 ≤ t = omega arith in
      omega (arith, mul-le-mul_left {m = k + 1} {n = t} n up, mul-add n k 1, mul-one n)

  pub only_word : (u v : ℕ) → u % n ≡ v % n → u / n ≡ v / n → u ≡ v
  only_word u v e f =
      sym (div-add-mod u n) ∙ ap (λ (y : ℕ). n * y + u % n) f ∙ ap (λ (y : ℕ). n * (v / n) + y) e ∙ div-add-mod v n

-- The number below m * p that is s modulo m and c modulo p
module _ (m p inverse s c : ℕ) where
  abbrev part : ℕ
  part = ((c + (p - s)) * inverse) % p

  pub joined_below : s < m → 0 < p → joined m p inverse s c < m * p
  joined_below h some =
      let up : part + 1 ≤ p = omega (arith, mod-lt ((c + (p - s)) * inverse) some) in
      omega (arith, mul-le-mul_left {m = part + 1} {n = p} m up, mul-add m part 1, mul-one m)

  pub joined_plain : s < m → joined m p inverse s c % m ≡ s
  joined_plain h = add-mul-mod_self_left s m part ∙ mod-eq_of_lt h

  times_part : 1 < p → (m * inverse) % p ≡ 1 → (m * part) % p ≡ (c + (p - s)) % p
  times_part some e =
      mul_by_mod m ((c + (p - s)) * inverse) p
      ∙ ap (λ (x : ℕ). x % p) (mul_left_comm m (c + (p - s)) inverse)
      ∙ sym (mul_by_mod (c + (p - s)) (m * inverse) p)
      ∙ ap (λ (x : ℕ). ((c + (p - s)) * x) % p) e
      ∙ ap (λ (x : ℕ). x % p) (mul-one (c + (p - s)))

  pub joined_guard : 1 < p → s ≤ p → c < p → (m * inverse) % p ≡ 1 → joined m p inverse s c % p ≡ c
  joined_guard some l h e =
      let back : s + (c + (p - s)) ≡ c + p = omega arith in
      sym (add-mod-mod s (m * part) p)
      ∙ ap (λ (x : ℕ). (s + x) % p) (times_part some e)
      ∙ add-mod-mod s (c + (p - s)) p
      ∙ ap (λ (x : ℕ). x % p) back
      ∙ add-mod_right c p
      ∙ mod-eq_of_lt h

-- each number is joined of its remainders
module _ (m p i x : ℕ) (above : m ≤ p) (more : 1 < m) (e : (m * i) % p ≡ 1) where
  abbrev s : ℕ
  s = x % m

  abbrev a : ℕ
  a = x / m

  the_gap : (x % p + (p - s)) % p ≡ (m * a) % p
  the_gap =
      let back : x + (p - s) ≡ m * a + p = omega (arith, div-add-mod x m, mod-lt x {m = m} (omega arith)) in
      mod-add-mod x p (p - s) ∙ ap (λ (y : ℕ). y % p) back ∙ add-mod_right (m * a) p

  the_part : ((x % p + (p - s)) * i) % p ≡ a % p
  the_part =
      ap (λ (y : ℕ). y % p) (mul_comm (x % p + (p - s)) i)
      ∙ sym (mul_by_mod i (x % p + (p - s)) p)
      ∙ ap (λ (y : ℕ). (i * y) % p) the_gap
      ∙ mul_by_mod i (m * a) p
      ∙ ap (λ (y : ℕ). y % p) (mul_left_comm i m a ∙ sym (mul_assoc m i a) ∙ mul_comm (m * i) a)
      ∙ sym (mul_by_mod a (m * i) p)
      ∙ ap (λ (y : ℕ). (a * y) % p) e
      ∙ ap (λ (y : ℕ). y % p) (mul-one a)

  pub joined_of : joined m p i (x % m) (x % p) ≡ x % (m * p)
  joined_of =
      let whole : joined m p i (x % m) (x % p) + (m * p) * (a / p) ≡ x =
      ap (λ (y : ℕ). (s + m * y) + (m * p) * (a / p)) the_part
      ∙ omega (arith, ap (λ (y : ℕ). m * y) (div-add-mod a p), div-add-mod x m) in
      sym (mod-eq_of_lt (joined_below m p i (x % m) (x % p) (mod-lt x (omega arith)) (omega arith)))
      ∙ sym (add-mul-mod_self_left (joined m p i (x % m) (x % p)) (m * p) (a / p))
      ∙ ap (λ (y : ℕ). y % (m * p)) whole

-- a power of a remainder
pub pow_mod : (w m e : ℕ) → (w ^ e) % m ≡ ((w % m) ^ e) % m
pow_mod w m zero = ap (λ (y : ℕ). y % m) (pow-zero w ∙ sym (pow-zero (w % m)))
pow_mod w m (suc e) =
    ap (λ (y : ℕ). y % m) (pow-suc w e)
    ∙ sym (mul_both (w ^ e) w m)
    ∙ ap (λ (y : ℕ). (y * (w % m)) % m) (pow_mod w m e)
    ∙ ap (λ (y : ℕ). ((((w % m) ^ e) % m) * y) % m) (sym (mod-mod w m))
    ∙ mul_both ((w % m) ^ e) (w % m) m
    ∙ ap (λ (y : ℕ). y % m) (sym (pow-suc (w % m) e))

-- remainders of a remainder by 3329 * p
pub mean_plain : (p w : ℕ) → w % (3329 * p) % 3329 ≡ w % 3329
mean_plain p w = mod-mod_of_dvd 3329 w (dvd-mul_right 3329 p)

pub mean_guard : (p w : ℕ) → w % (3329 * p) % p ≡ w % p
mean_guard p w = mod-mod_of_dvd p w (dvd-mul_left p 3329)

-- what leaves a remainder as it is, is a multiple
pub leaves : (p y d : ℕ) → (y + d) % p ≡ y % p → d % p ≡ 0
leaves p y d e =
    let whole : d + p * (y / p) ≡ p * ((y + d) / p) = omega (arith, div-add-mod (y + d) p, div-add-mod y p) in
    sym (add-mul-mod_self_left d p (y / p)) ∙ ap (λ (x : ℕ). x % p) whole ∙ mul-mod_right p ((y + d) / p)

module _ (p : ℕ) (above : 3329 < p) (prime : (a b : ℕ) → (a * b) % p ≡ 0 → (a % p ≡ 0) ⊎ (b % p ≡ 0)) where
  from_below : (x y : ℕ) → y ≤ x → x < 3329 * p → x % 3329 ≡ y % 3329 → x % p ≡ y % p → x ≡ y
  from_below x y l h e f =
      let k : ℕ = x / 3329 - y / 3329 in
      let gap : y + 3329 * k ≡ x = omega (arith, div-add-mod x 3329, div-add-mod y 3329) in
      let less : k < p = lt_of_mul-lt-mul_left 3329 {m = k} {n = p} (omega arith) in
      ⊎_elim
      (λ z. absurd (omega (arith, mod-eq_of_lt above)))
      (λ z. omega (arith, mod-eq_of_lt less))
      (prime 3329 k (leaves p y (3329 * k) (ap (λ (v : ℕ). v % p) gap ∙ f)))

  pub known_by : (x y : ℕ) → x < 3329 * p → y < 3329 * p → x % 3329 ≡ y % 3329 → x % p ≡ y % p → x ≡ y
  known_by x y h k e f = elim (dec_le y x) [
    | yes l ↦ from_below x y l h e f
    | no l ↦ sym (from_below y x (omega arith) k (sym e) (sym f))
  ]

-- a sum and a difference modulo m, by one comparison
pub add_low : (a b m : ℕ) → b < m → a < m - b → a + b ≡ (a + b) % m
add_low a b m h k = sym (mod-eq_of_lt (omega arith))

pub add_high : (a b m : ℕ) → a < m → b < m → m - b ≤ a → a - (m - b) ≡ (a + b) % m
add_high a b m h k l =
    let same : a - (m - b) ≡ (a + b) - m = omega arith in
    let over : m ≤ a + b = omega arith in
    same ∙ sym (mod-eq_of_lt (omega arith)) ∙ sym (mod-eq-sub-mod over)

pub less_up : (a b m : ℕ) → a < b → b < m → a + (m - b) ≡ (a + (m - b)) % m
less_up a b m h k = sym (mod-eq_of_lt (omega arith))

pub less_down : (a b m : ℕ) → a < m → b ≤ a → a - b ≡ (a + (m - b)) % m
less_down a b m h k =
    let same : a - b ≡ (a + (m - b)) - m = omega arith in
    let over : m ≤ a + (m - b) = omega arith in
    same ∙ sym (mod-eq_of_lt (omega arith)) ∙ sym (mod-eq-sub-mod over)

-- what numbers with known remainders leave
module _ (m A B s t : ℕ) (e : A % m ≡ s) (f : B % m ≡ t) where
  pub at_sum : (s + t) % m ≡ (A + B) % m
  at_sum = sym (add-mod A B m ∙ ap₂ (λ (x y : ℕ). (x + y) % m) e f)

  pub at_product : (s * t) % m ≡ (A * B) % m
  at_product = ap₂ (λ (x y : ℕ). (x * y) % m) (sym e) (sym f) ∙ mul_both A B m

  pub at_less : (k : ℕ) → 0 < m → B < m * k → (s + (m - t)) % m ≡ (A + (m * k - B)) % m
  at_less k some h = ap₂ (λ (x y : ℕ). (x + (m - y)) % m) (sym e) (sym f) ∙ sym (less_low m k A B some h)
