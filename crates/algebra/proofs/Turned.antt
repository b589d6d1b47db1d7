-- Multiplying by X modulo X ^ n - c: each coefficient one up, and c times the last to the front.
use Rattle.std.proofs.Common.{◌≡◌, ℕ, suc, ◌+◌, ◌-◌, ◌*◌, ◌<◌, ◌≤◌, sym, ap, ◌∙◌, arith}
use native.Mathlib.Decide.{dec_lt}
use Rattle.std.proofs.lemmas.Bool.{lt-ltb, le-ltb}
use Rattle.algebra.specs.Product.{turned}

module _ (n c : ℕ) (b : ℕ → ℕ) where
  pub turned_low : (i k : ℕ) → k < i → turned n c b i k ≡ c * b (n + k - i)
  unfolding turned
  turned_low i k h = rw (lt-ltb k i h)

  pub turned_high : (i k : ℕ) → i ≤ k → turned n c b i k ≡ b (k - i)
  unfolding turned
  turned_high i k h = rw (le-ltb k i h)

  pub turned_zero : (k : ℕ) → turned n c b 0 k ≡ b k
  turned_zero k = turned_high 0 k (omega arith) ∙ ap b (omega arith)

  -- all the way round
  pub turned_all : (k : ℕ) → k < n → turned n c b n k ≡ c * b k
  turned_all k h =
      let e : n + k - n ≡ k = omega arith in
      turned_low n k h ∙ ap (λ x. c * b x) e

  pub turned_suc : (q k : ℕ) → turned n c b (suc q) (suc k) ≡ turned n c b q k
  turned_suc q k = go (dec_lt k q)
    where
      go : Dec (k < q) → turned n c b (suc q) (suc k) ≡ turned n c b q k
      go (yes h) =
          let e : n + suc k - suc q ≡ n + k - q = omega arith in
          turned_low (suc q) (suc k) (omega arith) ∙ ap (λ x. c * b x) e ∙ sym (turned_low q k h)
      go (no h) =
          let e : suc k - suc q ≡ k - q = omega arith in
          turned_high (suc q) (suc k) (omega arith) ∙ ap b e ∙ sym (turned_high q k (omega arith))

  pub turned_first : (q : ℕ) → q < n → turned n c b (suc q) 0 ≡ c * turned n c b q (n - 1)
  turned_first q h =
      let e : n + 0 - suc q ≡ n - 1 - q = omega arith in
      turned_low (suc q) 0 (omega arith) ∙ ap (λ x. c * b x) e ∙ ap (λ x. c * x) (sym (turned_high q (n - 1) (omega arith)))
