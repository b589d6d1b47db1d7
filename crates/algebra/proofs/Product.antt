-- The slots of a product modulo X ^ 256 + 1 are the base products of the slots.
use Rattle.std.proofs.Common.{◌≡◌, ℕ, zero, suc, ◌+◌, ◌-◌, ◌*◌, ◌^◌, ◌<◌, ◌≤◌, sym, ap, ◌∙◌, subst, ap₂, arith, pow_pos, pow-add}
use native.Mathlib.Nat.{pow-succ', pow-zero}
use lib.Arith.{digits_lt}
use Rattle.algebra.specs.Congruence.{Same}
use Rattle.algebra.specs.Sum.{sum}
use Rattle.algebra.specs.Layers.{bitrev}
use Rattle.algebra.specs.Slots.{size, gamma, slot}
use Rattle.algebra.specs.Product.{turned, product_mod, product}
use Rattle.algebra.proofs.Modular.{same_of, same_refl, same_sym, ◌⨾◌, same_add, same_mul_left, same_mul_right}
use Rattle.algebra.proofs.Sums.{sum_suc, sum_first, sum_cong, sum_same, sum_scale, sum_scale_right, sum_swap, sum_digits}
use Rattle.algebra.proofs.Powers.{pow_mul, pow_turns}
use Rattle.algebra.proofs.Turned.{turned_zero, turned_all, turned_suc, turned_first}

-- f modulo X ^ d - c, of n * d coefficients: the coefficient o
part : (n d c : ℕ) → (ℕ → ℕ) → ℕ → ℕ
part n d c f o = sum n (λ i. f (i * d + o) * c ^ i)

abbrev all : (m e : ℕ) → ℕ
all m e = suc m * suc e

-- n is suc m, d is suc e; X ^ d is c, so X ^ (n * d) is c ^ n
module _ {neg : ℕ} (m e c : ℕ) (minus : Same neg (c ^ suc m) neg) (b : ℕ → ℕ) where
  -- X acts on the part as X: the coefficients move up
  part_suc : (q o : ℕ) → part (suc m) (suc e) c (turned (all m e) neg b (suc q)) (suc o) ≡ part (suc m) (suc e) c (turned (all m e) neg b q) o
  unfolding part
  part_suc q o = sum_cong (suc m) _ _ (λ i h.
      let r : i * suc e + suc o ≡ suc (i * suc e + o) = omega arith in
      ap (λ t. t * c ^ i) (ap (turned (all m e) neg b (suc q)) r ∙ turned_suc (all m e) neg b q (i * suc e + o)))

  -- and the last comes to the front, times c
  part_first : (q : ℕ) → q < all m e → Same neg (part (suc m) (suc e) c (turned (all m e) neg b (suc q)) 0) (c * part (suc m) (suc e) c (turned (all m e) neg b q) e)
  unfolding part
  part_first q h =
      let F : ℕ → ℕ = λ i. turned (all m e) neg b (suc q) (i * suc e + 0) * c ^ i in
      let G : ℕ → ℕ = λ i. turned (all m e) neg b q (i * suc e + e) * c ^ i in
      let last : all m e - 1 ≡ m * suc e + e = omega arith in
      let step : (i : ℕ) → F (suc i) ≡ c * G i =
      λ i. let r : suc i * suc e + 0 ≡ suc (i * suc e + e) = omega arith in
      ap₂ ◌*◌ (ap (turned (all m e) neg b (suc q)) r ∙ turned_suc (all m e) neg b q (i * suc e + e)) (pow-succ' c i) ∙ omega arith in
      same_of {y = F 0 + c * sum m G} (sum_first m F ∙ ap (λ t. F 0 + t) (sum_cong m _ _ (λ i k. step i) ∙ sum_scale m c G))
      ⨾ same_add
      (same_of {y = neg * turned (all m e) neg b q (m * suc e + e)}
      (ap₂ ◌*◌ (ap (turned (all m e) neg b (suc q)) (omega arith) ∙ turned_first (all m e) neg b q h ∙ ap (λ t. neg * turned (all m e) neg b q t) last) (pow-zero c) ∙ omega arith)
      ⨾ same_mul_right (turned (all m e) neg b q (m * suc e + e)) (same_sym minus)
      ⨾ same_of {y = c * G m} (rw (pow-succ' c m) (omega arith)))
      same_refl
      ⨾ same_of (omega (arith, ap (λ t. c * t) (sum_suc m G)))

  -- times X ^ (i * d + k): times c ^ i, and turned k times modulo X ^ d - c
  Turned : (i k : ℕ) → Type 0
  Turned i k = (o : ℕ) → o < suc e →
      Same neg (part (suc m) (suc e) c (turned (all m e) neg b (i * suc e + k)) o) (c ^ i * turned (suc e) c (part (suc m) (suc e) c b) k o)

  turned_more : (i k : ℕ) → i * suc e + k < all m e → k < suc e → Turned i k → Turned i (suc k)
  unfolding Turned
  turned_more i k l h r zero u =
      let n : i * suc e + suc k ≡ suc (i * suc e + k) = omega arith in
      same_of (ap (λ t. part (suc m) (suc e) c (turned (all m e) neg b t) 0) n) ⨾ part_first (i * suc e + k) l
      ⨾ same_mul_left c (r e (omega arith))
      ⨾ same_of (rw (turned_first (suc e) c (part (suc m) (suc e) c b) k h) (rw (ap (λ t. turned (suc e) c (part (suc m) (suc e) c b) k t) last) (omega arith)))
    where
      last : suc e - 1 ≡ e
      last = omega arith
  turned_more i k l h r (suc o) u =
      let n : i * suc e + suc k ≡ suc (i * suc e + k) = omega arith in
      same_of (ap (λ t. part (suc m) (suc e) c (turned (all m e) neg b t) (suc o)) n ∙ part_suc (i * suc e + k) o)
      ⨾ r o (omega arith)
      ⨾ same_of (ap (λ t. c ^ i * t) (sym (turned_suc (suc e) c (part (suc m) (suc e) c b) k o)))

  turned_within : (i k : ℕ) → i * suc e + k ≤ all m e → k ≤ suc e → Turned i 0 → Turned i k
  turned_within i zero l h r = r
  turned_within i (suc k) l h r = turned_more i k (omega arith) (omega arith) (turned_within i k (omega arith) (omega arith) r)

  turned_start : (i : ℕ) → i ≤ suc m → Turned i 0
  unfolding Turned part
  turned_start zero h o u =
      let n : 0 * suc e + 0 ≡ 0 = omega arith in
      same_of (ap (λ t. part (suc m) (suc e) c (turned (all m e) neg b t) o) n ∙ sum_cong (suc m) _ _ (λ i l. ap (λ t. t * c ^ i) (turned_zero (all m e) neg b (i * suc e + o)))
      ∙ rw (turned_zero (suc e) c (part (suc m) (suc e) c b) o, pow-zero c) (omega arith))
  turned_start (suc i) h o u =
      let n : suc i * suc e + 0 ≡ i * suc e + suc e = omega arith in
      let B : ℕ → ℕ = part (suc m) (suc e) c b in
      same_of (ap (λ t. part (suc m) (suc e) c (turned (all m e) neg b t) o) n)
      ⨾ turned_within i (suc e) (omega (arith, digits_lt h last)) (omega arith) (turned_start i (omega arith)) o u
      ⨾ same_of (rw (turned_all (suc e) c B o u, turned_zero (suc e) c B o, pow-succ' c i) (omega arith))
    where
      last : e < suc e
      last = omega arith

  turned_by : (i k : ℕ) → i < suc m → k < suc e → Turned i k
  turned_by i k h l = turned_within i k (omega (arith, digits_lt h l)) (omega arith) (turned_start i (omega arith))

  -- a sum over the coefficients of a, of the turned b's
  module _ (a : ℕ → ℕ) where
    by_rows : (o : ℕ) → part (suc m) (suc e) c (product_mod (all m e) neg a b) o ≡ sum (all m e) (λ i. a i * part (suc m) (suc e) c (turned (all m e) neg b i) o)
    unfolding product_mod part
    by_rows o =
        sum_cong (suc m) _ _ (λ n h. sym (sum_scale_right (all m e) (c ^ n) (λ i. a i * turned (all m e) neg b i (n * suc e + o))))
        ∙ sum_swap (suc m) (all m e) (λ n i. a i * turned (all m e) neg b i (n * suc e + o) * c ^ n)
        ∙ sum_cong (all m e) _ _ (λ i h.
        sum_cong (suc m) _ _ (λ n h. omega arith) ∙ sum_scale (suc m) (a i) (λ n. turned (all m e) neg b i (n * suc e + o) * c ^ n))

    part_product : (o : ℕ) → o < suc e →
        Same neg (part (suc m) (suc e) c (product_mod (all m e) neg a b) o) (product_mod (suc e) c (part (suc m) (suc e) c a) (part (suc m) (suc e) c b) o)
    unfolding part product_mod Turned
    part_product o h =
        same_of (by_rows o ∙ sum_digits (suc m) (suc e) (λ i. a i * part (suc m) (suc e) c (turned (all m e) neg b i) o))
        ⨾ sum_same (suc e) _ _ (λ k l.
        sum_same (suc m) _ _ (λ i q. same_mul_left (a (i * suc e + k)) (turned_by i k q l o h) ⨾ same_of (omega arith))
        ⨾ same_of (sum_scale_right (suc m) (turned (suc e) c (part (suc m) (suc e) c b) k o) (λ i. a (i * suc e + k) * c ^ i)))

part_of : {neg : ℕ} (n d N c : ℕ) → 0 < n → 0 < d → n * d ≡ N → Same neg (c ^ n) neg → (a b : ℕ → ℕ) (o : ℕ) → o < d →
    Same neg (part n d c (product_mod N neg a b) o) (product_mod d c (part n d c a) (part n d c b) o)
part_of zero d N c h k q minus a b o l = absurd (omega arith)
part_of (suc m) zero N c h k q minus a b o l = absurd (omega arith)
part_of {neg} (suc m) (suc e) N c h k q minus a b o l =
    subst (λ N. Same neg (part (suc m) (suc e) c (product_mod N neg a b) o) (product_mod (suc e) c (part (suc m) (suc e) c a) (part (suc m) (suc e) c b) o)) q
    (part_product m e c minus b a o l)

odd_times : (r n : ℕ) → (2 * r + 1) * n ≡ n + 2 * n * r
odd_times r n = omega arith

-- the slots fill the 256
pub slots_fill : (L : ℕ) → L ≤ 8 → 2 ^ L * size L ≡ 256
slots_fill L top =
    let e : L + (8 - L) ≡ 8 = omega arith in
    sym (pow-add 2 L (8 - L)) ∙ ap (λ n. 2 ^ n) e

module _ {neg : ℕ} (L w : ℕ) (top : L ≤ 8) (root : Same neg (w ^ (2 ^ L)) neg) where
  pub gamma_minus : (i : ℕ) → Same neg (gamma L w i ^ (2 ^ L)) neg
  unfolding gamma
  gamma_minus i =
      let r : ℕ = bitrev L i in
      let e : (2 * r + 1) * 2 ^ L ≡ 2 ^ L + 2 ^ suc L * r = odd_times r (2 ^ L) ∙ ap (λ n. 2 ^ L + n * r) (sym (pow-succ' 2 L)) in
      same_of (sym (pow_mul w (2 * r + 1) (2 ^ L)) ∙ ap (λ n. w ^ n) e) ⨾ pow_turns L w root (2 ^ L) r ⨾ root

  pub slot_product : (a b : ℕ → ℕ) (i o : ℕ) → o < size L →
      Same neg (slot L w (product neg a b) i o) (product_mod (size L) (gamma L w i) (slot L w a i) (slot L w b i) o)
  unfolding slot part
  slot_product a b i o h =
      part_of (2 ^ L) (size L) 256 (gamma L w i) (pow_pos L) (pow_pos (8 - L)) (slots_fill L top) (gamma_minus i) a b o h
