-- The laws of the product modulo X ^ n - c: for every n and c, as equations.
use Rattle.std.proofs.Common.{◌≡◌, ℕ, zero, suc, ◌+◌, ◌-◌, ◌*◌, ◌<◌, ◌≤◌, sym, ap, ◌∙◌, ap₂, arith}
use native.Mathlib.Decide.{dec_lt}
use Rattle.algebra.specs.Congruence.{Same}
use Rattle.algebra.specs.Sum.{sum}
use Rattle.algebra.specs.Product.{turned, product_mod}
use Rattle.algebra.proofs.Modular.{same_of, ◌⨾◌, same_mul, same_mul_left}
use Rattle.algebra.proofs.Sums.{sum_cong, sum_same, sum_add, sum_scale, sum_scale_right, sum_swap, sum_split, sum_back}
use Rattle.algebra.proofs.Turned.{turned_low, turned_high, turned_zero, turned_suc, turned_first}

module _ (n c : ℕ) where
  -- the coefficient k: what stays below X ^ n, and what comes round
  in_two : (a b : ℕ → ℕ) (k : ℕ) → k < n →
      product_mod n c a b k ≡ sum (suc k) (λ i. a i * b (k - i)) + c * sum (n - suc k) (λ i. a (suc k + i) * b (n - suc i))
  unfolding product_mod
  in_two a b k h =
      let m : n ≡ suc k + (n - suc k) = omega arith in
      let F : ℕ → ℕ = λ i. a i * turned n c b i k in
      ap (λ m. sum m F) m ∙ sum_split (suc k) (n - suc k) F
      ∙ ap₂ ◌+◌
      (sum_cong (suc k) _ _ (λ i l. ap (λ t. a i * t) (turned_high n c b i k (omega arith))))
      (sum_cong (n - suc k) _ _ (λ i l.
      let e : n + k - (suc k + i) ≡ n - suc i = omega arith in
      ap (λ t. a (suc k + i) * t) (turned_low n c b (suc k + i) k (omega arith) ∙ ap (λ t. c * b t) e) ∙ omega arith)
      ∙ sum_scale (n - suc k) c (λ i. a (suc k + i) * b (n - suc i)))

  pub product_comm : (a b : ℕ → ℕ) (k : ℕ) → k < n → product_mod n c a b k ≡ product_mod n c b a k
  product_comm a b k h =
      in_two a b k h
      ∙ ap₂ (λ s t. s + c * t)
      (sum_back (suc k) (λ i. a i * b (k - i))
      ∙ sum_cong (suc k) _ _ (λ i l.
      let d : suc k - suc i ≡ k - i = omega arith in
      let e : k - (suc k - suc i) ≡ i = omega arith in
      ap₂ (λ s t. a s * b t) d e ∙ omega arith))
      (sum_back (n - suc k) (λ i. a (suc k + i) * b (n - suc i))
      ∙ sum_cong (n - suc k) _ _ (λ i l.
      let d : suc k + (n - suc k - suc i) ≡ n - suc i = omega arith in
      let e : n - suc (n - suc k - suc i) ≡ suc k + i = omega arith in
      ap₂ (λ s t. a s * b t) d e ∙ omega arith))
      ∙ sym (in_two b a k h)

  turned_add : (b e : ℕ → ℕ) (i k : ℕ) → turned n c (λ j. b j + e j) i k ≡ turned n c b i k + turned n c e i k
  turned_add b e i k = go (dec_lt k i)
    where
      go : Dec (k < i) → turned n c (λ j. b j + e j) i k ≡ turned n c b i k + turned n c e i k
      go (yes h) = rw (turned_low n c (λ j. b j + e j) i k h, turned_low n c b i k h, turned_low n c e i k h) (omega arith)
      go (no h) =
          let l : i ≤ k = omega arith in
          rw (turned_high n c (λ j. b j + e j) i k l, turned_high n c b i k l, turned_high n c e i k l)

  pub product_add : (a b e : ℕ → ℕ) (k : ℕ) → product_mod n c a (λ j. b j + e j) k ≡ product_mod n c a b k + product_mod n c a e k
  unfolding product_mod
  product_add a b e k =
      sum_cong n _ _ (λ i h. ap (λ t. a i * t) (turned_add b e i k) ∙ omega arith)
      ∙ sum_add n (λ i. a i * turned n c b i k) (λ i. a i * turned n c e i k)

  turned_same : {neg : ℕ} (b e : ℕ → ℕ) → ((j : ℕ) → j < n → Same neg (b j) (e j)) → (i k : ℕ) → k < n → Same neg (turned n c b i k) (turned n c e i k)
  turned_same {neg} b e h i k l = go (dec_lt k i)
    where
      go : Dec (k < i) → Same neg (turned n c b i k) (turned n c e i k)
      go (yes m) = same_of (turned_low n c b i k m) ⨾ same_mul_left c (h (n + k - i) (omega arith)) ⨾ same_of (sym (turned_low n c e i k m))
      go (no m) =
          let q : i ≤ k = omega arith in
          same_of (turned_high n c b i k q) ⨾ h (k - i) (omega arith) ⨾ same_of (sym (turned_high n c e i k q))

  pub product_same : {neg : ℕ} (a b d e : ℕ → ℕ) → ((j : ℕ) → j < n → Same neg (a j) (d j)) → ((j : ℕ) → j < n → Same neg (b j) (e j)) →
      (k : ℕ) → k < n → Same neg (product_mod n c a b k) (product_mod n c d e k)
  unfolding product_mod
  product_same a b d e h l k m = sum_same n _ _ (λ i q. same_mul (h i q) (turned_same b e l i k m))

  -- X ^ (j + 1) is X ^ j after X
  turned_turned : (b : ℕ → ℕ) (j k : ℕ) → j < n → k < n → turned n c (turned n c b 1) j k ≡ turned n c b (suc j) k
  turned_turned b zero k h l = turned_zero n c (turned n c b 1) k
  turned_turned b (suc j) zero h l =
      turned_first n c (turned n c b 1) j (omega arith)
      ∙ ap (λ t. c * t) (turned_turned b j (n - 1) (omega arith) (omega arith)) ∙ sym (turned_first n c b (suc j) h)
  turned_turned b (suc j) (suc k) h l =
      turned_suc n c (turned n c b 1) j k ∙ turned_turned b j k (omega arith) (omega arith) ∙ sym (turned_suc n c b (suc j) k)

  -- and X after X ^ j
  turned_one : (b : ℕ → ℕ) (j k : ℕ) → j < n → turned n c (turned n c b j) 1 k ≡ turned n c b (suc j) k
  turned_one b j zero h =
      turned_first n c (turned n c b j) 0 (omega arith) ∙ ap (λ t. c * t) (turned_zero n c (turned n c b j) (n - 1)) ∙ sym (turned_first n c b j h)
  turned_one b j (suc k) h =
      turned_suc n c (turned n c b j) 0 k ∙ turned_zero n c (turned n c b j) k ∙ sym (turned_suc n c b j k)

  -- X b times e is X times b e
  product_one : (b e : ℕ → ℕ) (k : ℕ) → k < n → product_mod n c (turned n c b 1) e k ≡ turned n c (product_mod n c b e) 1 k
  unfolding product_mod
  product_one b e zero h =
      product_comm (turned n c b 1) e 0 h
      ∙ sum_cong n _ _ (λ j l. ap (λ t. e j * t) (turned_turned b j 0 l h ∙ turned_first n c b j l) ∙ omega arith)
      ∙ sum_scale n c (λ j. e j * turned n c b j (n - 1))
      ∙ ap (λ t. c * t) (product_comm e b (n - 1) (omega arith) ∙ sym (turned_zero n c (product_mod n c b e) (n - 1)))
      ∙ sym (turned_first n c (product_mod n c b e) 0 h)
  product_one b e (suc k) h =
      product_comm (turned n c b 1) e (suc k) h
      ∙ sum_cong n _ _ (λ j l. ap (λ t. e j * t) (turned_turned b j (suc k) l h ∙ turned_suc n c b j k))
      ∙ product_comm e b k (omega arith)
      ∙ sym (turned_suc n c (product_mod n c b e) 0 k ∙ turned_zero n c (product_mod n c b e) k)

  left_cong : (a b e : ℕ → ℕ) → ((j : ℕ) → j < n → a j ≡ b j) → (k : ℕ) → product_mod n c a e k ≡ product_mod n c b e k
  unfolding product_mod
  left_cong a b e h k = sum_cong n _ _ (λ i l. ap (λ t. t * turned n c e i k) (h i l))

  one_cong : (b e : ℕ → ℕ) → ((j : ℕ) → j < n → b j ≡ e j) → (k : ℕ) → k < n → turned n c b 1 k ≡ turned n c e 1 k
  one_cong b e h zero l = turned_first n c b 0 l ∙ ap (λ t. c * t) (turned_zero n c b (n - 1) ∙ h (n - 1) (omega arith) ∙ sym (turned_zero n c e (n - 1))) ∙ sym (turned_first n c e 0 l)
  one_cong b e h (suc k) l = turned_suc n c b 0 k ∙ turned_zero n c b k ∙ h k (omega arith) ∙ sym (turned_suc n c e 0 k ∙ turned_zero n c e k)

  product_turned : (b e : ℕ → ℕ) (i : ℕ) → i < n → (k : ℕ) → k < n → product_mod n c (turned n c b i) e k ≡ turned n c (product_mod n c b e) i k
  product_turned b e zero h k l = left_cong (turned n c b 0) b e (λ j m. turned_zero n c b j) k ∙ sym (turned_zero n c (product_mod n c b e) k)
  product_turned b e (suc i) h k l =
      left_cong (turned n c b (suc i)) (turned n c (turned n c b i) 1) e (λ j m. sym (turned_one b i j (omega arith))) k
      ∙ product_one (turned n c b i) e k l
      ∙ one_cong (product_mod n c (turned n c b i) e) (turned n c (product_mod n c b e) i) (λ j m. product_turned b e i (omega arith) j m) k l
      ∙ turned_one (product_mod n c b e) i k (omega arith)

  pub product_assoc : (a b e : ℕ → ℕ) (k : ℕ) → k < n → product_mod n c (product_mod n c a b) e k ≡ product_mod n c a (product_mod n c b e) k
  unfolding product_mod
  product_assoc a b e k h =
      sum_cong n _ _ (λ l m. sym (sum_scale_right n (turned n c e l k) (λ i. a i * turned n c b i l)))
      ∙ sum_swap n n (λ l i. a i * turned n c b i l * turned n c e l k)
      ∙ sum_cong n _ _ (λ i m.
      sum_cong n _ _ (λ l q. omega arith)
      ∙ sum_scale n (a i) (λ l. turned n c b i l * turned n c e l k)
      ∙ ap (λ t. a i * t) (product_turned b e i m k h))
