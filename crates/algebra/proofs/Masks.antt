-- The masked layers hold the plain values, each times w to the power of its mask: one layer, in both directions.
use Rattle.std.proofs.Common.{◌≡◌, ℕ, zero, suc, ◌+◌, ◌-◌, ◌*◌, ◌/◌, ◌%◌, ◌^◌, ◌<◌, ◌≤◌, sym, ap, ◌∙◌, mod-lt, arith, pow_pos, pow-add}
use native.Mathlib.Nat.{div-add-mod}
use Rattle.algebra.specs.Congruence.{Same}
use Rattle.algebra.specs.Layers.{ForwardPairs, InversePairs, forward, inverse, forward_len, forward_groups, forward_exponent, inverse_len, inverse_groups, inverse_exponent, last_factor}
use Rattle.algebra.specs.Masks.{mask_difference, Holds, MaskedForward, MaskedInverse, ForwardLayer, InverseLayer}
use Rattle.algebra.proofs.Modular.{same_of, same_refl, same_sym, ◌⨾◌, same_by, same_add, same_mul, same_mul_left, same_mul_right, same_mod}
use Rattle.algebra.proofs.Layers.{in_halves, forward_is, inverse_is}
use Rattle.algebra.proofs.Inverse.{at_low, at_high, whole}
use Rattle.algebra.proofs.Steps.{twist, twist_back, zeta, zeta_back, forward_len_is, forward_groups_is, forward_exponent_is, inverse_len_is, inverse_groups_is, inverse_exponent_is}
use Rattle.algebra.proofs.Powers.{pow_of_mod}

-- the butterflies of a layer, from the values h under the masks e to h' under d, for any number and size of groups
pub record ForwardGroups (L neg w len count : ℕ) (z e d h h' : ℕ → ℕ) : Type 0 where
  pub at : (g o : ℕ) → g < count → o < len →
      MaskedForward L neg w (z g) (e (g * (2 * len) + o)) (e (g * (2 * len) + o + len)) (d (g * (2 * len) + o))
      (h (g * (2 * len) + o)) (h (g * (2 * len) + o + len)) (h' (g * (2 * len) + o)) (h' (g * (2 * len) + o + len))

pub record InverseGroups (L neg w c len count : ℕ) (z e d h h' : ℕ → ℕ) : Type 0 where
  pub at : (g o : ℕ) → g < count → o < len →
      MaskedInverse L neg w c (z g) (e (g * (2 * len) + o)) (d (g * (2 * len) + o)) (d (g * (2 * len) + o + len))
      (h (g * (2 * len) + o)) (h (g * (2 * len) + o + len)) (h' (g * (2 * len) + o)) (h' (g * (2 * len) + o + len))

-- both positions of each butterfly have one mask
pub record Shared (len count : ℕ) (e : ℕ → ℕ) : Type 0 where
  pub one : (g o : ℕ) → g < count → o < len → e (g * (2 * len) + o + len) ≡ e (g * (2 * len) + o)

-- the layers by their numbers
pub forward_as_groups : (L neg w t : ℕ) (e d h h' : ℕ → ℕ) → ForwardLayer L neg w (suc t) e d h h' → ForwardGroups L neg w (2 ^ (7 - t)) (2 ^ t) (twist L t) e d h h'
forward_as_groups L neg w t e d h h' M =
    let G : ForwardGroups L neg w (forward_len (suc t)) (forward_groups (suc t)) (forward_exponent L (suc t)) e d h h' = record { at = M.at } in
    rw (forward_len_is t, forward_groups_is t, forward_exponent_is L t) at G

pub inverse_as_groups : (L neg w i s t : ℕ) (e d h h' : ℕ → ℕ) → L ≤ 8 → s + suc t ≡ L → InverseLayer L neg w i (suc s) e d h h' →
    InverseGroups L neg w (last_factor L i (suc s)) (2 ^ (7 - t)) (2 ^ t) (twist_back L t) e d h h'
inverse_as_groups L neg w i s t e d h h' top sum M =
    let G : InverseGroups L neg w (last_factor L i (suc s)) (inverse_len L (suc s)) (inverse_groups L (suc s)) (inverse_exponent L (suc s)) e d h h' = record { at = M.at } in
    rw (inverse_len_is L s t top sum, inverse_groups_is L s t top sum, inverse_exponent_is L s t top sum) at G

-- a difference of exponents, added again
difference : (M d e : ℕ) → 0 < M → ((d + (M - e % M)) % M + e) % M ≡ d % M
difference zero d e h = absurd (omega arith)
difference (suc m) d e h =
    let s : Same m ((d + (suc m - e % suc m)) % suc m + e) d =
    same_add (same_mod (d + (suc m - e % suc m))) same_refl
    ⨾ same_by 0 (suc (e / suc m)) (omega (arith, div-add-mod e (suc m), mod-lt e h)) in
    s.same

cancel : (M u v e : ℕ) → 0 < M → (u + e) % M ≡ (v + e) % M → u % M ≡ v % M
cancel zero u v e h q = absurd (omega arith)
cancel (suc m) u v e h q =
    let s : Same m (u + e) (v + e) = record { same = q } in
    let t : Same m u v =
    same_by {y = u + e + m * e} e 0 (omega arith) ⨾ same_add s same_refl ⨾ same_by 0 e (omega arith) in
    t.same

pub difference_back : (L d e : ℕ) → (mask_difference L d e + e) % 2 ^ suc L ≡ d % 2 ^ suc L
unfolding mask_difference
difference_back L d e = difference (2 ^ suc L) d e (pow_pos (suc L))

module _ {neg : ℕ} (L w : ℕ) (root : Same neg (w ^ (2 ^ L)) neg) where
  -- a power times a masked value
  pub remask : (u e d x y : ℕ) → (u + e) % 2 ^ suc L ≡ d % 2 ^ suc L → Same neg x (w ^ e * y) → Same neg (w ^ u * x) (w ^ d * y)
  remask u e d x y m h =
      same_mul_left (w ^ u) h
      ⨾ same_of {y = w ^ (u + e) * y} (rw (pow-add w u e) (omega arith))
      ⨾ same_mul_right y (pow_of_mod L w root (u + e) d m)

  -- an exponent that a program computes stands for the difference
  pub any_exponent : (u e d : ℕ) → (u + e) % 2 ^ suc L ≡ d % 2 ^ suc L → Same neg (w ^ u) (w ^ mask_difference L d e)
  any_exponent u e d m =
      pow_of_mod L w root u (mask_difference L d e) (cancel (2 ^ suc L) u (mask_difference L d e) e (pow_pos (suc L)) (m ∙ sym (difference_back L d e)))

  module _ (z e1 e2 e3 a b x y x' y' : ℕ) (B : MaskedForward L neg w z e1 e2 e3 x y x' y')
      (hx : Same neg x (w ^ e1 * a)) (hy : Same neg y (w ^ e2 * b)) where
    twisted : Same neg (w ^ mask_difference L (z + e3) e2 * y) (w ^ e3 * (w ^ z * b))
    twisted = remask (mask_difference L (z + e3) e2) e2 (z + e3) y b (difference_back L (z + e3) e2) hy ⨾ same_of (rw (pow-add w z e3) (omega arith))

    straight : Same neg (w ^ mask_difference L e3 e1 * x) (w ^ e3 * a)
    straight = remask (mask_difference L e3 e1) e1 e3 x a (difference_back L e3 e1) hx

    pub forward_low : Same neg x' (w ^ e3 * (a + w ^ z * b))
    forward_low = B.low ⨾ same_add straight twisted ⨾ same_of (omega arith)

    pub forward_high : Same neg y' (w ^ e3 * (a + neg * (w ^ z * b)))
    forward_high = B.high ⨾ same_add straight (same_mul_left neg twisted) ⨾ same_of (omega arith)

  module _ (c z e o1 o2 a b x y x' y' : ℕ) (B : MaskedInverse L neg w c z e o1 o2 x y x' y')
      (hx : Same neg x (w ^ e * a)) (hy : Same neg y (w ^ e * b)) where
    pub inverse_low : Same neg x' (w ^ o1 * (c * (a + b)))
    inverse_low =
        B.low
        ⨾ same_mul_left c (remask (mask_difference L o1 e) e o1 (x + y) (a + b) (difference_back L o1 e) (same_add hx hy ⨾ same_of (omega arith)))
        ⨾ same_of (omega arith)

    pub inverse_high : Same neg y' (w ^ o2 * (c * (w ^ z * (b + neg * a))))
    inverse_high =
        B.high
        ⨾ same_mul_left c
        (remask (mask_difference L (z + o2) e) e (z + o2) (y + neg * x) (b + neg * a) (difference_back L (z + o2) e)
        (same_add hy (same_mul_left neg hx) ⨾ same_of (omega arith)))
        ⨾ same_of (rw (pow-add w z o2) (omega arith))

  -- a masked layer: h holds f under the masks e; after it h' holds f' under d
  module _ (len count : ℕ) (pos : 0 < len) (z e d f f' h h' : ℕ → ℕ) (held : (j : ℕ) → j < count * (2 * len) → Same neg (h j) (w ^ e j * f j)) where
    pub forward_layer : ForwardPairs neg len count (λ g. w ^ z g) f f' → ForwardGroups L neg w len count z e d h h' → Shared len count d →
        (j : ℕ) → j < count * (2 * len) → Same neg (h' j) (w ^ d j * f' j)
    forward_layer F M S =
        in_halves len count pos (λ j. Same neg (h' j) (w ^ d j * f' j))
        (λ g o k l.
        forward_low (z g) _ _ _ _ _ _ _ _ _ (M.at g o k l) (held _ (at_low len count g o k l)) (held _ (at_high len count g o k l))
        ⨾ same_mul_left _ (same_sym (F.low g o k l)))
        (λ g o k l.
        forward_high (z g) _ _ _ _ _ _ _ _ _ (M.at g o k l) (held _ (at_low len count g o k l)) (held _ (at_high len count g o k l))
        ⨾ same_mul (same_of (ap (λ n. w ^ n) (sym (S.one g o k l)))) (same_sym (F.high g o k l)))

    pub inverse_layer : (c : ℕ) → InversePairs neg len count (λ g. w ^ z g) f f' → InverseGroups L neg w c len count z e d h h' → Shared len count e →
        (j : ℕ) → j < count * (2 * len) → Same neg (h' j) (w ^ d j * (c * f' j))
    inverse_layer c F M S =
        in_halves len count pos (λ j. Same neg (h' j) (w ^ d j * (c * f' j)))
        (λ g o k l.
        inverse_low c (z g) _ _ _ _ _ _ _ _ _ (M.at g o k l) (held _ (at_low len count g o k l)) (other g o k l)
        ⨾ same_mul_left _ (same_mul_left c (same_sym (F.low g o k l))))
        (λ g o k l.
        inverse_high c (z g) _ _ _ _ _ _ _ _ _ (M.at g o k l) (held _ (at_low len count g o k l)) (other g o k l)
        ⨾ same_mul_left _ (same_mul_left c (same_sym (F.high g o k l))))
      where
        other : (g o : ℕ) → g < count → o < len → Same neg (h (g * (2 * len) + o + len)) (w ^ e (g * (2 * len) + o) * f (g * (2 * len) + o + len))
        other g o k l = held _ (at_high len count g o k l) ⨾ same_mul_right _ (same_of (ap (λ n. w ^ n) (S.one g o k l)))

  -- layer suc t, forward, and inverse layer suc s with the factor c
  module _ (t : ℕ) (low : t < 8) (e d f h h' : ℕ → ℕ) (held : Holds neg w e f h) where
    fills : 2 ^ t * (2 * 2 ^ (7 - t)) ≡ 256
    fills = whole t low

    pub forward_step : Shared (2 ^ (7 - t)) (2 ^ t) d → ForwardGroups L neg w (2 ^ (7 - t)) (2 ^ t) (twist L t) e d h h' →
        Holds neg w d (forward neg (2 ^ (7 - t)) (zeta L w t) f) h'
    unfolding zeta
    forward_step S M =
        let len : ℕ = 2 ^ (7 - t) in
        let all : 2 ^ t * (2 * len) ≡ 256 = fills in
        record {
          at = λ j k.
              forward_layer len (2 ^ t) (pow_pos (7 - t)) (twist L t) e d f _ h h' (λ i q. held.at i (omega arith))
              (forward_is neg len (2 ^ t) (zeta L w t) f) M S j (omega arith);
        }

    pub inverse_step : (c : ℕ) → Shared (2 ^ (7 - t)) (2 ^ t) e → InverseGroups L neg w c (2 ^ (7 - t)) (2 ^ t) (twist_back L t) e d h h' →
        Holds neg w d (λ j. c * inverse neg (2 ^ (7 - t)) (zeta_back L w t) f j) h'
    unfolding zeta_back
    inverse_step c S M =
        let len : ℕ = 2 ^ (7 - t) in
        let all : 2 ^ t * (2 * len) ≡ 256 = fills in
        record {
          at = λ j k.
              inverse_layer len (2 ^ t) (pow_pos (7 - t)) (twist_back L t) e d f _ h h' (λ i q. held.at i (omega arith))
              c (inverse_is neg len (2 ^ t) (zeta_back L w t) f) M S j (omega arith);
        }
