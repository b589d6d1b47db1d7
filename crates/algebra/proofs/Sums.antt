-- The laws of finite sums, as equations where they are equations, and modulo suc neg where a premise is.
use Rattle.std.proofs.Common.{◌≡◌, ℕ, zero, suc, ◌+◌, ◌-◌, ◌*◌, ◌<◌, ◌≢◌, sym, refl, ap, ◌∙◌, ap₂, arith}
use native.Mathlib.Decide.{ℕ_discrete}
use Rattle.algebra.specs.Congruence.{Same}
use Rattle.algebra.specs.Sum.{sum}
use Rattle.algebra.proofs.Modular.{same_refl, same_add}

pub sum_zero : (f : ℕ → ℕ) → sum 0 f ≡ 0
unfolding sum
sum_zero f = refl

pub sum_suc : (n : ℕ) (f : ℕ → ℕ) → sum (suc n) f ≡ sum n f + f n
unfolding sum
sum_suc n f = refl

pub sum_cong : (n : ℕ) (f g : ℕ → ℕ) → ((i : ℕ) → i < n → f i ≡ g i) → sum n f ≡ sum n g
unfolding sum
sum_cong zero f g h = refl
sum_cong (suc n) f g h = ap₂ ◌+◌ (sum_cong n f g (λ i k. h i (omega arith))) (h n (omega arith))

pub sum_same : {neg : ℕ} (n : ℕ) (f g : ℕ → ℕ) → ((i : ℕ) → i < n → Same neg (f i) (g i)) → Same neg (sum n f) (sum n g)
unfolding sum
sum_same zero f g h = same_refl
sum_same (suc n) f g h = same_add (sum_same n f g (λ i k. h i (omega arith))) (h n (omega arith))

pub sum_add : (n : ℕ) (f g : ℕ → ℕ) → sum n (λ i. f i + g i) ≡ sum n f + sum n g
unfolding sum
sum_add zero f g = refl
sum_add (suc n) f g = omega (arith, sum_add n f g)

pub sum_scale : (n : ℕ) (c : ℕ) (f : ℕ → ℕ) → sum n (λ i. c * f i) ≡ c * sum n f
unfolding sum
sum_scale zero c f = omega arith
sum_scale (suc n) c f = omega (arith, sum_scale n c f)

pub sum_scale_right : (n : ℕ) (c : ℕ) (f : ℕ → ℕ) → sum n (λ i. f i * c) ≡ sum n f * c
unfolding sum
sum_scale_right zero c f = omega arith
sum_scale_right (suc n) c f = omega (arith, sum_scale_right n c f)

pub sum_zeros : (n : ℕ) → sum n (λ i. 0) ≡ 0
unfolding sum
sum_zeros zero = refl
sum_zeros (suc n) = omega (arith, sum_zeros n)

pub sum_swap : (n k : ℕ) (f : ℕ → ℕ → ℕ) → sum n (λ i. sum k (λ j. f i j)) ≡ sum k (λ j. sum n (λ i. f i j))
unfolding sum
sum_swap zero k f = sym (sum_zeros k)
sum_swap (suc n) k f = ap (λ t. t + sum k (λ j. f n j)) (sum_swap n k f) ∙ sym (sum_add k (λ j. sum n (λ i. f i j)) (f n))

-- the even and the odd indices
pub sum_halves : (n : ℕ) (f : ℕ → ℕ) → sum (n + n) f ≡ sum n (λ i. f (i + i)) + sum n (λ i. f (i + i + 1))
sum_halves zero f = rw sum_zero (rw sum_zero (rw sum_zero refl))
sum_halves (suc n) f =
    let e : suc n + suc n ≡ suc (suc (n + n)) = omega arith in
    let o : suc (n + n) ≡ n + n + 1 = omega arith in
    rw e (omega (arith, sum_suc (suc (n + n)) f, sum_suc (n + n) f, ap f o, sum_halves n f, sum_suc n (λ i. f (i + i)), sum_suc n (λ i. f (i + i + 1))))

-- the first index by itself
pub sum_first : (n : ℕ) (f : ℕ → ℕ) → sum (suc n) f ≡ f 0 + sum n (λ i. f (suc i))
unfolding sum
sum_first zero f = omega arith
sum_first (suc n) f = omega (arith, sum_first n f)

-- two functions that differ at one index
pub sum_but : (n j : ℕ) (f g : ℕ → ℕ) → j < n → ((i : ℕ) → i < n → i ≢ j → f i ≡ g i) → sum n f + g j ≡ sum n g + f j
sum_but zero j f g h k = omega arith
sum_but (suc n) j f g h k = go (ℕ_discrete n j) (λ l. sum_but n j f g l (λ i q r. k i (omega arith) r))
  where
    go : Dec (n ≡ j) → (j < n → sum n f + g j ≡ sum n g + f j) → sum (suc n) f + g j ≡ sum (suc n) g + f j
    go (yes e) r =
        let c : sum n f ≡ sum n g = sum_cong n f g (λ i l. k i (omega arith) (omega arith)) in
        omega (arith, sum_suc n f, sum_suc n g, ap f e, ap g e)
    go (no e) r = omega (arith, sum_suc n f, sum_suc n g, r (omega arith), k n (omega arith) e)

pub sum_split : (n d : ℕ) (f : ℕ → ℕ) → sum (n + d) f ≡ sum n f + sum d (λ i. f (n + i))
sum_split n zero f =
    let e : n + 0 ≡ n = omega arith in
    rw e (omega (arith, sum_zero (λ i. f (n + i))))
sum_split n (suc d) f =
    let e : n + suc d ≡ suc (n + d) = omega arith in
    rw e (omega (arith, sum_suc (n + d) f, sum_suc d (λ i. f (n + i)), sum_split n d f))

pub sum_ones : (n : ℕ) → sum n (λ i. 1) ≡ n
unfolding sum
sum_ones zero = refl
sum_ones (suc n) = omega (arith, sum_ones n)

-- n blocks of d: the places of a block, one after the other
pub sum_digits : (n d : ℕ) (f : ℕ → ℕ) → sum (n * d) f ≡ sum d (λ k. sum n (λ i. f (i * d + k)))
sum_digits zero d f =
    let e : zero * d ≡ 0 = omega arith in
    rw e (sum_zero f ∙ sym (sum_cong d _ (λ k. 0) (λ k h. sum_zero _) ∙ sum_zeros d))
sum_digits (suc n) d f =
    let e : suc n * d ≡ n * d + d = omega arith in
    rw e (sum_split (n * d) d f ∙ ap (λ t. t + sum d (λ k. f (n * d + k))) (sum_digits n d f)
    ∙ sym (sum_add d (λ k. sum n (λ i. f (i * d + k))) (λ k. f (n * d + k)))
    ∙ sum_cong d _ _ (λ k h. sym (sum_suc n (λ i. f (i * d + k)))))

-- the other way round
pub sum_back : (n : ℕ) (f : ℕ → ℕ) → sum n f ≡ sum n (λ i. f (n - suc i))
sum_back zero f = sum_zero f ∙ sym (sum_zero _)
sum_back (suc n) f =
    let e : suc n - suc 0 ≡ n = omega arith in
    let first : sum (suc n) (λ i. f (suc n - suc i)) ≡ f (suc n - suc 0) + sum n (λ i. f (suc n - suc (suc i))) = sum_first n (λ i. f (suc n - suc i)) in
    let rest : sum n (λ i. f (suc n - suc (suc i))) ≡ sum n (λ i. f (n - suc i)) = sum_cong n _ _ (λ i h. ap f (omega arith)) in
    omega (arith, sum_suc n f, first, rest, ap f e, sum_back n f)
