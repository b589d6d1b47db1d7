-- A number that no number from 2 to its root divides is prime: by descent, a to p % a.
use Rattle.std.proofs.Common.{◌≡◌, ℕ, zero, suc, ◌+◌, ◌*◌, ◌/◌, ◌%◌, ◌<◌, ◌≤◌, Bool, true, false, T, ltb, ◌⊎◌, sym, ap, ◌∙◌, subst, inl, inr, mod-lt, mul-le-mul, one-mul, arith, lit<, ltb→lt}
use native.Mathlib.Decide.{ℕ_discrete, dec_le}
use native.Mathlib.Nat.{div-add-mod, mul-mod_right, mul-mod_left, mul-add-mod_self_left}
use Rattle.algebra.specs.Prime.{Prime}

-- a rule over the numbers below n, as one test that antt computes
abbrev both : Bool → Bool → Bool
both true b = b
both false b = false

both_left : (a b : Bool) → T (both a b) → T a
both_left true b t = tt
both_left false b t = t

both_right : (a b : Bool) → T (both a b) → T b
both_right true b t = t
both_right false b t = absurd t

abbrev pub all : ℕ → (ℕ → Bool) → Bool
all zero f = true
all (suc n) f = both (f n) (all n f)

pub all_at : (n : ℕ) (f : ℕ → Bool) → T (all n f) → (k : ℕ) → k < n → T (f k)
all_at zero f t k h = absurd (omega arith)
all_at (suc n) f t k h = go (ℕ_discrete k n) (λ l. all_at n f (both_right (f n) (all n f) t) k l)
  where
    go : Dec (k ≡ n) → (k < n → T (f k)) → T (f k)
    go (yes e) r = subst (λ (i : ℕ). T (f i)) (sym e) (both_left (f n) (all n f) t)
    go (no e) r = r (omega arith)

abbrev pub Undivided : ℕ → Type 0
Undivided p = (d : ℕ) → 1 < d → d < p → 0 < p % d

-- p * b is a * b * (p / a) and (p % a) * b
step : (p a b : ℕ) → (a * b) % p ≡ 0 → ((p % a) * b) % p ≡ 0
step p a b e =
    let q : ℕ = (a * b) / p in
    let whole : p * q ≡ a * b = omega (arith, div-add-mod (a * b) p) in
    let parts : p * (q * (p / a)) + (p % a) * b ≡ p * b =
    omega (arith, ap (λ (x : ℕ). x * b) (div-add-mod p a), ap (λ (x : ℕ). x * (p / a)) whole) in
    sym (mul-add-mod_self_left p (q * (p / a)) ((p % a) * b)) ∙ ap (λ (x : ℕ). x % p) parts ∙ mul-mod_right p b

descends : (p : ℕ) → Undivided p → (n a b : ℕ) → a ≤ n → 0 < a → a < p → (a * b) % p ≡ 0 → b % p ≡ 0
descends p u zero a b l h k e = absurd (omega arith)
descends p u (suc n) a b l h k e =
    go (ℕ_discrete a 1) (λ more. descends p u n (p % a) b (omega (arith, mod-lt p h)) (u a more k) (omega (arith, mod-lt p h)) (step p a b e))
  where
    go : Dec (a ≡ 1) → (1 < a → b % p ≡ 0) → b % p ≡ 0
    go (yes o) r = ap (λ (x : ℕ). x % p) (sym (one-mul b) ∙ ap (λ (x : ℕ). x * b) (sym o)) ∙ e
    go (no o) r = r (omega arith)

remainder_factor : (p a b : ℕ) → (a * b) % p ≡ 0 → ((a % p) * b) % p ≡ 0
remainder_factor p a b e =
    let parts : p * ((a / p) * b) + (a % p) * b ≡ a * b = omega (arith, ap (λ (x : ℕ). x * b) (div-add-mod a p)) in
    sym (mul-add-mod_self_left p ((a / p) * b) ((a % p) * b)) ∙ ap (λ (x : ℕ). x % p) parts ∙ e

pub prime : (p : ℕ) → 0 < p → Undivided p → Prime p
prime p s u a b e = go (ℕ_discrete (a % p) 0)
  where
    go : Dec (a % p ≡ 0) → (a % p ≡ 0) ⊎ (b % p ≡ 0)
    go (yes z) = inl z
    go (no z) =
        inr (descends p u (a % p) (a % p) b (omega arith) (omega arith) (mod-lt a s) (remainder_factor p a b e))

-- divisors come in pairs, and one of a pair is at most the root
pub undivided : (p r : ℕ) → p < r * r → ((d : ℕ) → 1 < d → d < r → 0 < p % d) → Undivided p
undivided p r h t d more less = go (ℕ_discrete (p % d) 0) (dec_le r d)
  where
    pair : p % d ≡ 0 → r ≤ d → 0 < p % d
    pair z k =
        let q : ℕ = p / d in
        let whole : d * q ≡ p = omega (arith, div-add-mod p d) in
        let small : q < r = small_from q whole (dec_le r q) in
        let big : 1 < q = big_from q whole in
        let none : p % q ≡ 0 = ap (λ (x : ℕ). x % q) (sym whole) ∙ mul-mod_left d q in
        absurd (omega (arith, t q big small))
      where
        small_from : (q : ℕ) → d * q ≡ p → Dec (r ≤ q) → q < r
        small_from q w (yes l) = omega (arith, mul-le-mul k l)
        small_from q w (no l) = omega arith

        big_from : (q : ℕ) → d * q ≡ p → 1 < q
        big_from zero w = omega arith
        big_from (suc zero) w = omega arith
        big_from (suc (suc q)) w = omega arith

    go : Dec (p % d ≡ 0) → Dec (r ≤ d) → 0 < p % d
    go (no z) k = omega arith
    go (yes z) (yes k) = pair z k
    go (yes z) (no k) = t d more (omega arith)

-- the test
abbrev pub passes : ℕ → ℕ → Bool
passes p r = all r (λ d. ltb 0 (p % (2 + d)))

pub prime_by_test : (p r : ℕ) → 0 < p → p < (2 + r) * (2 + r) → T (passes p r) → Prime p
prime_by_test p r s h t =
    prime p s (undivided p (2 + r) h at)
  where
    at : (d : ℕ) → 1 < d → d < 2 + r → 0 < p % d
    at zero m l = absurd (omega arith)
    at (suc zero) m l = absurd (omega arith)
    at (suc (suc k)) m l =
        let two : 2 + k ≡ suc (suc k) = omega arith in
        rw two at (ltb→lt 0 (p % (2 + k)) (all_at r (λ d. ltb 0 (p % (2 + d))) t k (omega arith)))

pub prime_7681 : Prime 7681
prime_7681 = prime_by_test 7681 86 (lit< tt) (lit< tt) tt

pub prime_12289 : Prime 12289
prime_12289 = prime_by_test 12289 109 (lit< tt) (lit< tt) tt
