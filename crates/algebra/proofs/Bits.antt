-- The rules of the reversed bits.
use Rattle.std.proofs.Common.{◌≡◌, ℕ, zero, suc, ◌+◌, ◌-◌, ◌*◌, ◌/◌, ◌%◌, ◌^◌, ◌<◌, ◌≤◌, refl, ap, ◌∙◌, arith}
use native.Mathlib.Nat.{pow-succ'}
use Rattle.algebra.specs.Layers.{bitrev}
use Rattle.algebra.proofs.Steps.{twist, twist_back}

pub rev_none : (x : ℕ) → bitrev 0 x ≡ 0
unfolding bitrev
rev_none x = refl

pub rev_suc : (k x : ℕ) → bitrev (suc k) x ≡ x % 2 * 2 ^ k + bitrev k (x / 2)
unfolding bitrev
rev_suc k x = refl

pub rev_zero : (k : ℕ) → bitrev k 0 ≡ 0
rev_zero zero = rev_none 0
rev_zero (suc k) = rev_suc k 0 ∙ rw (rev_zero k) (omega arith)

pub rev_double : (k x : ℕ) → x < 2 ^ k → bitrev (suc k) x ≡ 2 * bitrev k x
rev_double zero x h = rw (rev_suc 0 x) (rw (rev_none (x / 2), rev_none x) (omega arith))
rev_double (suc k) x h =
    let e : bitrev (suc k) (x / 2) ≡ 2 * bitrev k (x / 2) = rev_double k (x / 2) (omega arith) in
    rw (rev_suc (suc k) x, rev_suc k x, pow-succ' 2 k) (omega arith)

-- the exponent of the slot i
pub rev_slot : (k i : ℕ) → i < 2 ^ k → bitrev (suc k) (2 ^ k + i) ≡ 2 * bitrev k i + 1
rev_slot zero i h =
    let e : 2 ^ 0 + i ≡ 1 = omega arith in
    rw (e, rev_suc 0 1, rev_none (1 / 2), rev_none i)
rev_slot (suc k) i h =
    let x : ℕ = 2 ^ suc k + i in
    let d : x / 2 ≡ 2 ^ k + i / 2 = omega arith in
    let r : x % 2 ≡ i % 2 = omega arith in
    let e : bitrev (suc k) (2 ^ k + i / 2) ≡ 2 * bitrev k (i / 2) + 1 = rev_slot k (i / 2) (omega arith) in
    rw (rev_suc (suc k) x, d, r, e, rev_suc k i, pow-succ' 2 k) (omega arith)

-- the twiddle of the inverse's group and that of the forward's: their exponents add up to half the order
one_odd : (r s n m : ℕ) → r < 2 → s < 2 → r + s + 2 * n + 1 ≡ 2 * m → r + s ≡ 1
one_odd zero zero n m h k e = absurd (omega arith)
one_odd zero (suc s) n m h k e = omega arith
one_odd (suc r) zero n m h k e = omega arith
one_odd (suc r) (suc s) n m h k e = absurd (omega arith)

opposite : (k t x y : ℕ) → t < k → 2 ^ t ≤ x → 2 ^ t ≤ y → x + y + 1 ≡ 3 * 2 ^ t → bitrev k x + bitrev k y ≡ 2 ^ k
opposite zero t x y h a b e = absurd (omega arith)
opposite (suc k) zero x y h a b e =
    let i : x ≡ 1 = omega arith in
    let j : y ≡ 1 = omega arith in
    rw (i, j, rev_suc k 1, rev_zero k, pow-succ' 2 k) (omega arith)
opposite (suc k) (suc t) x y h a b e =
    let i : bitrev k (x / 2) + bitrev k (y / 2) ≡ 2 ^ k = opposite k t (x / 2) (y / 2) (omega arith) (omega arith) (omega arith) (omega arith) in
    let one : x % 2 + y % 2 ≡ 1 = one_odd (x % 2) (y % 2) (x / 2 + y / 2) (3 * 2 ^ t) (omega arith) (omega arith) (omega arith) in
    rw (rev_suc k x, rev_suc k y, pow-succ' 2 k) (omega (arith, ap (λ n. n * 2 ^ k) one))

pub mirror : (L t g : ℕ) → t < L → g < 2 ^ t → twist_back L t g + twist L t g ≡ 2 ^ L
unfolding twist twist_back
mirror L t g h k = opposite L t (2 ^ suc t - 1 - g) (2 ^ t + g) h (omega arith) (omega arith) (omega arith)
