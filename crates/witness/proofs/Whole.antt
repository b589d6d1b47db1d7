-- The transform of a J + b J ^ 2 from that of J.
use Prim.Native.Nat.{ℕ, zero, suc, pred, ◌+◌, ◌*◌, ◌%◌, ◌^◌, ◌<◌}
use mathlib.Core.Path.{◌≡◌, sym, ◌∙◌}
use mathlib.Core.List.{List}
use native.Mathlib.Omega.{arith}
use native.Mathlib.Decide.{dec_lt}
use native.Mathlib.Nat.{mod-lt}
use lib.ListN.{length}
use Rattle.algebra.specs.Congruence.{Same}
use Rattle.algebra.specs.Layers.{ntt}
use Rattle.algebra.specs.Slots.{gamma}
use Rattle.algebra.specs.Product.{product_mod, product, ones}
use Rattle.algebra.specs.Polynomials.{coefficient, listed}
use Rattle.algebra.proofs.Modular.{same_of, same_refl, same_sym, same_mod, same_by, same_add, same_mul_left, ◌⨾◌}
use Rattle.algebra.proofs.Linear.{layers_scale}
use Rattle.algebra.proofs.Ring.{product_same}
use Rattle.algebra.proofs.Ones.{ones_square}
use Rattle.algebra.proofs.Main.{in_slots, ntt_cong, ntt_add, ntt_product}
use Rattle.algebra.proofs.Lists.{listed_same, listed_is}
use Rattle.algebra.proofs.Theorems.{products}
use Rattle.histories.specs.Operations.{Base, transform_of, witness}
use Rattle.witness.specs.Groups.{Groups, SlotsDue}
use Rattle.witness.proofs.Pairs.{pair_set, pair_first, pair_second, pair_other}

pub slots_more : (p w a b n x y : ℕ) (xs ws : List ℕ) → 2 * n + 1 < length ws → SlotsDue p w a b n xs ws →
    x ≡ (a * coefficient xs n + b * (coefficient xs n * coefficient xs n + coefficient xs n * coefficient xs n * gamma 7 w n)) % p →
    y ≡ (a * coefficient xs n + b * (coefficient xs n * coefficient xs n + coefficient xs n * coefficient xs n)) % p →
    SlotsDue p w a b (n + 1) xs (pair_set ws n x y)
slots_more p w a b n x y xs ws room S ex ey =
    record {
      first = λ i h. elim (dec_lt i n) [
        | yes u ↦ pair_other ws n x y (2 * i) (omega arith) (omega arith) ∙ S.first i u
        | no u ↦
            let q : i ≡ n = omega arith in
            rw q (pair_first ws n x y room ∙ ex)
      ];
      second = λ i h. elim (dec_lt i n) [
        | yes u ↦ pair_other ws n x y (2 * i + 1) (omega arith) (omega arith) ∙ S.second i u
        | no u ↦
            let q : i ≡ n = omega arith in
            rw q (pair_second ws n x y room ∙ ey)
      ];
    }

module _ (neg w i : ℕ) (root : Same neg (w ^ (2 ^ 7)) neg) (unit : Same neg (i * 2 ^ 7) 1) (a b : ℕ) (xs : List ℕ) (G : Groups (suc neg) w 7 xs) where
  -- J's transform
  ones_at : (k o : ℕ) → k < 128 → o < 2 → Same neg (ntt 7 neg w ones (k * 2 + o)) (coefficient xs k)
  unfolding ntt
  ones_at k o h l = G.here k o h l

  square_at : (k o : ℕ) → k < 128 → o < 2 →
      Same neg (ntt 7 neg w (product neg ones ones) (k * 2 + o)) (product_mod 2 (gamma 7 w k) (λ q. coefficient xs k) (λ q. coefficient xs k) o)
  square_at k o h l =
      (ntt_product 7 w (omega arith) root i unit ones ones).at k o h l
      ⨾ product_same 2 (gamma 7 w k) (λ q. ntt 7 neg w ones (k * 2 + q)) (λ q. ntt 7 neg w ones (k * 2 + q)) (λ q. coefficient xs k) (λ q. coefficient xs k)
      (λ q r. ones_at k q h r) (λ q r. ones_at k q h r) o l

  scaled : (c : ℕ) (f : ℕ → ℕ) (j : ℕ) → j < 256 → Same neg (ntt 7 neg w (λ k. c * f k) j) (c * ntt 7 neg w f j)
  unfolding ntt
  scaled c f j h = layers_scale 7 w (omega arith) c (λ k. c * f k) f (λ k l. same_refl) 7 (omega arith) j h

  -- J ^ 2 is 2 k - 254 at each k
  parts : (k : ℕ) → k < 256 → Same neg (a + b * (2 * k + neg * 254)) (a * ones k + b * product neg ones ones k)
  parts k h =
      same_add (same_of (omega arith))
      (same_mul_left b (same_add (same_sym (ones_square neg k h)) same_refl ⨾ same_by 0 254 (omega arith)))

  split : (j : ℕ) → j < 256 →
      Same neg (ntt 7 neg w (coefficient (listed neg (λ k. a + b * (2 * k + neg * 254)))) j) (a * ntt 7 neg w ones j + b * ntt 7 neg w (product neg ones ones) j)
  split j h =
      ntt_cong 7 w (omega arith) root i unit _ (λ k. a * ones k + b * product neg ones ones k) (λ k l. listed_same (λ k. a + b * (2 * k + neg * 254)) k l ⨾ parts k l) j h
      ⨾ ntt_add 7 w (omega arith) root i unit (λ k. a * ones k) (λ k. b * product neg ones ones k) j h
      ⨾ same_add (scaled a ones j h) (scaled b (product neg ones ones) j h)

  module _ (numbers : List ℕ) (size : length numbers ≡ 256) (S : SlotsDue (suc neg) w a b 128 xs numbers) where
    slot_at : (k o : ℕ) → k < 128 → o < 2 →
        coefficient numbers (k * 2 + o) ≡ (a * coefficient xs k + b * product_mod 2 (gamma 7 w k) (λ q. coefficient xs k) (λ q. coefficient xs k) o) % suc neg
    slot_at k zero h l =
        let e : k * 2 + 0 ≡ 2 * k = omega arith in
        rw (e, products.two_first (gamma 7 w k) (λ q. coefficient xs k) (λ q. coefficient xs k)) (S.first k h)
    slot_at k (suc zero) h l =
        let e : k * 2 + 1 ≡ 2 * k + 1 = omega arith in
        rw (e, products.two_second (gamma 7 w k) (λ q. coefficient xs k) (λ q. coefficient xs k)) (S.second k h)
    slot_at k (suc (suc o)) h l = absurd (omega arith)

    transform_is : listed neg (ntt 7 neg w (coefficient (listed neg (λ k. a + b * (2 * k + neg * 254))))) ≡ numbers
    transform_is =
        listed_is {neg = neg} _ numbers
        (record { size = size; small = in_slots 7 (omega arith) (λ j. coefficient numbers j < suc neg) (λ k o h l. rw (slot_at k o h l) (mod-lt _ (omega arith))) })
        (in_slots 7 (omega arith) (λ j. Same neg (ntt 7 neg w (coefficient (listed neg (λ k. a + b * (2 * k + neg * 254)))) j) (coefficient numbers j))
        (λ k o h l.
        split (k * 2 + o) (omega arith)
        ⨾ same_add (same_mul_left a (ones_at k o h l)) (same_mul_left b (square_at k o h l))
        ⨾ same_sym (same_of (slot_at k o h l) ⨾ same_mod _)))

pub transform_due_is : (p w i a b : ℕ) (xs numbers : List ℕ) → 0 < p → Same (pred p) (w ^ (2 ^ 7)) (pred p) → Same (pred p) (i * 2 ^ 7) 1 →
    Groups p w 7 xs → length numbers ≡ 256 → SlotsDue p w a b 128 xs numbers →
    let B : Base = record { modulus = p; root = w } in numbers ≡ transform_of B (witness B a b)
unfolding transform_of witness
transform_due_is zero w i a b xs numbers some root unit G size S = absurd (omega arith)
transform_due_is (suc neg) w i a b xs numbers some root unit G size S = sym (transform_is neg w i root unit a b xs G numbers size S)
