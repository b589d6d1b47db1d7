-- What holds of both check moduli.
use Rattle.std.specs.Prelude.{◌≡◌, ℕ, ◌+◌, ◌*◌, ◌%◌, ◌^◌, ◌<◌, ◌≤◌, true, ◌==◌, refl}
use Rattle.std.proofs.Common.{sym, subst, ⊎_elim, lit<, arith}
use Rattle.std.proofs.lemmas.Bool.{eqb-true, or_cases}
use Rattle.algebra.specs.Prime.{Prime}
use Rattle.algebra.proofs.Primes.{prime_7681, prime_12289}
use Rattle.rings.specs.Moduli.{plain_root}
use Rattle.guarded.specs.Moduli.{is_check, most_redundancy, joint_root, check_inverse, check_scale, lifted}

pub known : (P : ℕ → Type 0) → P 7681 → P 12289 → (p : ℕ) → is_check p ≡ true → P p
known P a b p h =
    ⊎_elim (λ e. subst P (sym (eqb-true p 7681 e)) a) (λ e. subst P (sym (eqb-true p 12289 e)) b) (or_cases (p == 7681) (p == 12289) h)

pub known_above : (p : ℕ) → is_check p ≡ true → 3329 < p
known_above = known (λ p. 3329 < p) (lit< tt) (lit< tt)

pub known_below : (p : ℕ) → is_check p ≡ true → p < 12290
known_below = known (λ p. p < 12290) (lit< tt) (lit< tt)

pub known_prime : (p : ℕ) → is_check p ≡ true → Prime p
known_prime = known Prime prime_7681 prime_12289

pub known_odd : (p : ℕ) → is_check p ≡ true → (3329 * p) % 2 ≡ 1
known_odd = known (λ p. (3329 * p) % 2 ≡ 1) refl refl

pub known_turned : (p : ℕ) → is_check p ≡ true → (joint_root p ^ 128 + 1) % (3329 * p) ≡ 0
known_turned = known (λ p. (joint_root p ^ 128 + 1) % (3329 * p) ≡ 0) refl refl

pub known_coefficient : (p : ℕ) → is_check p ≡ true → joint_root p % 3329 ≡ 17
known_coefficient = known (λ p. joint_root p % 3329 ≡ 17) refl refl

pub known_check : (p : ℕ) → is_check p ≡ true → joint_root p % p ≡ plain_root p
known_check = known (λ p. joint_root p % p ≡ plain_root p) refl refl

-- the words fit
pub known_fits : (t p : ℕ) → is_check p ≡ true → t ≤ most_redundancy p → 3329 * p * t < 2 ^ 32
known_fits t = known (λ p. t ≤ most_redundancy p → 3329 * p * t < 2 ^ 32) (λ h. omega arith) (λ h. omega arith)

pub known_most : (t p : ℕ) → is_check p ≡ true → t ≤ most_redundancy p → t ≤ 167
known_most t = known (λ p. t ≤ most_redundancy p → t ≤ 167) (λ h. h) (λ h. omega arith)

pub known_inverts : (p : ℕ) → is_check p ≡ true → (3329 * check_inverse p) % p ≡ 1
known_inverts = known (λ p. (3329 * check_inverse p) % p ≡ 1) refl refl

pub known_scale : (p : ℕ) → is_check p ≡ true → (128 * lifted p 3303 (check_scale p)) % (3329 * p) ≡ 1
known_scale = known (λ p. (128 * lifted p 3303 (check_scale p)) % (3329 * p) ≡ 1) refl refl

pub known_low : (p : ℕ) → is_check p ≡ true → check_scale p < p
known_low = known (λ p. check_scale p < p) (lit< tt) (lit< tt)

pub known_zero : (p : ℕ) → is_check p ≡ true → lifted p 0 0 ≡ 0
known_zero = known (λ p. lifted p 0 0 ≡ 0) refl refl
