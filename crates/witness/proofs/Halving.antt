-- The layers of J by the numbers of its groups.
use Prim.Native.Nat.{ℕ, zero, suc, pred, ◌+◌, ◌-◌, ◌*◌, ◌/◌, ◌%◌, ◌^◌, ◌<◌, ◌≤◌}
use mathlib.Core.Path.{◌≡◌, refl, ◌∙◌, subst}
use mathlib.Core.List.{List, ◌∷◌}
use native.Mathlib.Omega.{arith}
use native.Mathlib.Decide.{dec_lt, ℕ_discrete}
use lib.Dec.{lit<}
use lib.Pow.{pow_mono, shl_exact}
use lib.ListN.{length, replicate, length-set}
use Rattle.algebra.specs.Congruence.{Same}
use Rattle.algebra.specs.Layers.{bitrev, layers, ForwardPairs}
use Rattle.algebra.specs.Product.{ones}
use Rattle.algebra.specs.Polynomials.{coefficient}
use Rattle.algebra.proofs.Modular.{same_of, same_refl, same_sym, same_add, same_mul_left, ◌⨾◌}
use Rattle.algebra.proofs.Layers.{forward_is}
use Rattle.algebra.proofs.Steps.{twist, zeta, layers_zero, layers_suc}
use Rattle.witness.specs.Groups.{Halved, Groups}
use Rattle.witness.proofs.Pairs.{pair_set, pair_first, pair_second, pair_other}
use Rattle.witness.proofs.Numbers.{below, half_low, half_high}

pub halved_none : (p w count : ℕ) (xs : List ℕ) → ((k : ℕ) → coefficient xs k < p) → Halved p w count count xs xs
halved_none p w count xs small =
    record { size = refl; small = small; before = λ g h. refl; low = λ g h l. absurd (omega arith); high = λ g h l. absurd (omega arith) }

-- one group more: its halves x and y take the places 2 g and 2 g + 1
module _ (p w count from g : ℕ) (xs ys : List ℕ) (H : Halved p w count from xs ys) (next : from ≡ g + 1) (room : 2 * g + 1 < length ys) (some : 0 < p)
    (e z t x y : ℕ) (ee : e ≡ bitrev 7 (count + g)) (ez : z ≡ (w ^ e) % p) (et : t ≡ (coefficient ys g * z) % p)
    (ex : x ≡ (coefficient ys g + t) % p) (ey : y ≡ (coefficient ys g + (p - t)) % p) where
  kept : coefficient ys g ≡ coefficient xs g
  kept = H.before g (omega arith)

  small : (k : ℕ) → coefficient (pair_set ys g x y) k < p
  small k = elim (ℕ_discrete k (2 * g)) [
    | yes u ↦ rw (u, pair_first ys g x y room) (below p _ x some ex)
    | no u ↦ elim (ℕ_discrete k (2 * g + 1)) [
      | yes v ↦ rw (v, pair_second ys g x y room) (below p _ y some ey)
      | no v ↦ rw (pair_other ys g x y k u v) (H.small k)
    ]
  ]

  low : (k : ℕ) → g ≤ k → k < count → Same (pred p) (coefficient (pair_set ys g x y) (2 * k)) (coefficient xs k + w ^ bitrev 7 (count + k) * coefficient xs k)
  low k h l = elim (dec_lt g k) [
    | yes u ↦ same_of (pair_other ys g x y (2 * k) (omega arith) (omega arith)) ⨾ H.low k (omega arith) l
    | no u ↦
        let q : k ≡ g = omega arith in
        rw (q, pair_first ys g x y room, ← kept, ← ee) (half_low w e z (coefficient ys g) t p x some ez et ex)
  ]

  high : (k : ℕ) → g ≤ k → k < count → Same (pred p) (coefficient (pair_set ys g x y) (2 * k + 1)) (coefficient xs k + pred p * (w ^ bitrev 7 (count + k) * coefficient xs k))
  high k h l = elim (dec_lt g k) [
    | yes u ↦ same_of (pair_other ys g x y (2 * k + 1) (omega arith) (omega arith)) ⨾ H.high k (omega arith) l
    | no u ↦
        let q : k ≡ g = omega arith in
        rw (q, pair_second ys g x y room, ← kept, ← ee) (half_high w e z (coefficient ys g) t p y some ez et ey)
  ]

  pub halved_more : Halved p w count g xs (pair_set ys g x y)
  halved_more =
      record {
        size = simp length-set H.size;
        small = small;
        before = λ k h. pair_other ys g x y k (omega arith) (omega arith) ∙ H.before k (omega arith);
        low = low;
        high = high;
      }

zeros : (n k : ℕ) → coefficient (replicate n 0) k ≡ 0
zeros zero k = refl
zeros (suc n) zero = refl
zeros (suc n) (suc k) = zeros n k

-- before the first layer: J's one group holds 1
pub groups_none : (p w n : ℕ) → 1 < p → Groups p w 0 (1 ∷ replicate n 0)
groups_none p w n more =
    record {
      small = small;
      here = λ g o h l.
          let z : g ≡ 0 = omega arith in
          rw (z, layers_zero 7 (pred p) w ones) same_refl;
    }
  where
    small : (k : ℕ) → coefficient (1 ∷ replicate n 0) k < p
    small zero = more
    small (suc k) = rw (zeros n k) (omega arith)

module _ (neg w t : ℕ) (l : t < 7) (xs ys : List ℕ) (G : Groups (suc neg) w t xs) (H : Halved (suc neg) w (2 ^ t) 0 xs ys) where
  half : 2 * 2 ^ (7 - suc t) ≡ 2 ^ (7 - t)
  half =
      let e : 7 - t ≡ suc (7 - suc t) = omega arith in
      rw e (omega arith)

  pairs : ForwardPairs neg (2 ^ (7 - t)) (2 ^ t) (zeta 7 w t) (layers 7 neg w t ones) (layers 7 neg w (suc t) ones)
  pairs = rw (layers_suc 7 neg w t ones) (forward_is neg (2 ^ (7 - t)) (2 ^ t) (zeta 7 w t) (layers 7 neg w t ones))

  factor : (g : ℕ) → zeta 7 w t g ≡ w ^ bitrev 7 (2 ^ t + g)
  unfolding zeta twist
  factor g = refl

  low_place : (g o : ℕ) → g < 2 ^ t → o < 2 ^ (7 - t) → Same neg (layers 7 neg w t ones (g * (2 * 2 ^ (7 - t)) + o)) (coefficient xs g)
  low_place g o h k = G.here g o h (omega arith)

  high_place : (g o : ℕ) → g < 2 ^ t → o < 2 ^ (7 - t) → Same neg (layers 7 neg w t ones (g * (2 * 2 ^ (7 - t)) + o + 2 ^ (7 - t))) (coefficient xs g)
  high_place g o h k =
      let e : g * (2 * 2 ^ (7 - t)) + o + 2 ^ (7 - t) ≡ g * (2 * 2 ^ (7 - t)) + (o + 2 ^ (7 - t)) = omega arith in
      rw e (G.here g (o + 2 ^ (7 - t)) h (omega arith))

  even : (g o : ℕ) → g < 2 ^ t → o < 2 ^ (7 - t) → Same neg (layers 7 neg w (suc t) ones (2 * g * 2 ^ (7 - t) + o)) (coefficient ys (2 * g))
  even g o h k =
      let e : 2 * g * 2 ^ (7 - t) + o ≡ g * (2 * 2 ^ (7 - t)) + o = omega arith in
      rw e
      (pairs.low g o h k ⨾ same_add (low_place g o h k) (same_mul_left (zeta 7 w t g) (high_place g o h k))
      ⨾ rw (factor g) (same_sym (H.low g (omega arith) h)))

  odd : (g o : ℕ) → g < 2 ^ t → o < 2 ^ (7 - t) → Same neg (layers 7 neg w (suc t) ones ((2 * g + 1) * 2 ^ (7 - t) + o)) (coefficient ys (2 * g + 1))
  odd g o h k =
      let e : (2 * g + 1) * 2 ^ (7 - t) + o ≡ g * (2 * 2 ^ (7 - t)) + o + 2 ^ (7 - t) = omega arith in
      rw e
      (pairs.high g o h k ⨾ same_add (low_place g o h k) (same_mul_left neg (same_mul_left (zeta 7 w t g) (high_place g o h k)))
      ⨾ rw (factor g) (same_sym (H.high g (omega arith) h)))

  at : (k o : ℕ) → k < 2 ^ suc t → o < 2 ^ (7 - t) → Same neg (layers 7 neg w (suc t) ones (k * 2 ^ (7 - t) + o)) (coefficient ys k)
  at k o h u = go (k % 2) refl
    where
      go : (r : ℕ) → k % 2 ≡ r → Same neg (layers 7 neg w (suc t) ones (k * 2 ^ (7 - t) + o)) (coefficient ys k)
      go zero e =
          let is : 2 * (k / 2) ≡ k = omega arith in
          subst (λ (n : ℕ). Same neg (layers 7 neg w (suc t) ones (n * 2 ^ (7 - t) + o)) (coefficient ys n)) is (even (k / 2) o (omega arith) u)
      go (suc zero) e =
          let is : 2 * (k / 2) + 1 ≡ k = omega arith in
          subst (λ (n : ℕ). Same neg (layers 7 neg w (suc t) ones (n * 2 ^ (7 - t) + o)) (coefficient ys n)) is (odd (k / 2) o (omega arith) u)
      go (suc (suc r)) e = absurd (omega arith)

  groups_next : Groups (suc neg) w (suc t) ys
  groups_next = record { small = H.small; here = rw half at }

-- one layer more: the code shifts 1 for the number of groups
pub group_count : (t : ℕ) → t < 7 → (1 * 2 ^ t) % 2 ^ 64 ≡ 2 ^ t
group_count t l = shl_exact 1 t 64 (lit< tt) (omega arith) ∙ omega arith

pub group_most : (t : ℕ) → t < 7 → 2 ^ t ≤ 64
group_most t l = pow_mono {i = t} {j = 6} (omega arith)

pub groups_more : (p w t count : ℕ) (xs ys : List ℕ) → 0 < p → t < 7 → count ≡ 2 ^ t → Groups p w t xs → Halved p w count 0 xs ys → Groups p w (t + 1) ys
groups_more zero w t count xs ys some l e G H = absurd (omega arith)
groups_more (suc neg) w t count xs ys some l e G H =
    let next : suc t ≡ t + 1 = omega arith in
    subst (λ (n : ℕ). Groups (suc neg) w n ys) next
    (groups_next neg w t l xs ys G (subst (λ (n : ℕ). Halved (suc neg) w n 0 xs ys) e H))
