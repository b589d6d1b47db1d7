-- A masked layer takes no two rows to one.
use Rattle.std.proofs.Common.{◌≡◌, ℕ, suc, ◌+◌, ◌-◌, ◌*◌, ◌^◌, ◌<◌, Bool, true, false, cond, ltb, List, sym, ap, ◌∙◌, arith, pow_pos}
use Rattle.algebra.specs.declared.Direction.{Direction}
use Rattle.algebra.specs.declared.Direction.TheVariants.{Forward, Inverse}
use Rattle.algebra.specs.Congruence.{Same}
use Rattle.algebra.specs.Layers.{forward_len, forward_groups, inverse_len, inverse_groups, forward_exponent, last_factor}
use Rattle.algebra.specs.Masks.{mask_difference, mask_after, masked_layer}
use Rattle.algebra.specs.Polynomials.{coefficient, listed}
use Rattle.algebra.specs.Theorems.{Laws}
use Rattle.algebra.proofs.Modular.{same_of, same_refl, same_sym, ◌⨾◌}
use Rattle.algebra.proofs.Layers.{in_halves}
use Rattle.algebra.proofs.Inverse.{at_low, at_high, whole}
use Rattle.algebra.proofs.Steps.{forward_len_is, forward_groups_is, inverse_len_is, inverse_groups_is}
use Rattle.algebra.proofs.Lists.{listed_same, listed_is}
use Rattle.algebra.proofs.Theorems.{transforms}
use Rattle.histories.specs.Operations.{Base, neg, inverse_of_128, Good, layer_under}
use Rattle.histories.proofs.Cancelling.{cancel_factor, cancel_power, from_both_first, from_both_second}

-- two polynomials that agree are one
pub agree : (B : Base) (x y : List ℕ) → Good B x → Good B y → ((j : ℕ) → j < 256 → Same (neg B) (coefficient x j) (coefficient y j)) → x ≡ y
agree B x y gx gy h = sym (listed_is (coefficient x) x gx (λ j k. same_refl)) ∙ listed_is (coefficient x) y gy h

pub from_listed : {neg : ℕ} (f g : ℕ → ℕ) → listed neg f ≡ listed neg g → (j : ℕ) → j < 256 → Same neg (f j) (g j)
from_listed f g e j h = same_sym (listed_same f j h) ⨾ same_of (ap (λ (z : List ℕ). coefficient z j) e) ⨾ listed_same g j h

module _ (B : Base) (root : Same (neg B) (B.root ^ (2 ^ 7)) (neg B)) (unit : Same (neg B) (inverse_of_128 B * 2 ^ 7) 1) where
  laws : Laws 7 (neg B) B.root (inverse_of_128 B)
  laws = transforms 7 (neg B) B.root (inverse_of_128 B) (omega arith) root unit

  two : Same (neg B) (inverse_of_128 B * 64 * 2) 1
  two = same_of {y = inverse_of_128 B * 2 ^ 7} (omega arith) ⨾ unit

  forward_rows : (s : ℕ) → s < 7 → (e e' : List ℕ) (f g : ℕ → ℕ) →
      ((j : ℕ) → j < 256 → Same (neg B) (masked_layer 7 (neg B) B.root (inverse_of_128 B) Forward (suc s) e e' f j) (masked_layer 7 (neg B) B.root (inverse_of_128 B) Forward (suc s) e e' g j)) →
      (j : ℕ) → j < 256 → Same (neg B) (f j) (g j)
  forward_rows s l e e' f g same j h =
      in_halves len count (pow_pos (8 - suc s)) (λ j. Same (neg B) (f j) (g j))
      (λ p o a b. cancel_power B.root root _ _ _ (from_both_first (inverse_of_128 B * 64) two _ _ _ _ (low p o a b) (high p o a b)))
      (λ p o a b. cancel_power B.root root _ _ _ (from_both_second (inverse_of_128 B * 64) two _ _ _ _ (low p o a b) (high p o a b)))
      j (omega (arith, all))
    where
      len : ℕ
      len = forward_len (suc s)

      count : ℕ
      count = forward_groups (suc s)

      all : count * (2 * len) ≡ 256
      all = rw (forward_groups_is s, forward_len_is s) (whole s (omega arith))

      u : (p o : ℕ) → ℕ
      u p o = B.root ^ mask_difference 7 (mask_after 7 Forward (suc s) e' (p * (2 * len) + o)) (mask_after 7 Forward s e (p * (2 * len) + o))

      v : (p o : ℕ) → ℕ
      v p o = B.root ^ mask_difference 7 (forward_exponent 7 (suc s) p + mask_after 7 Forward (suc s) e' (p * (2 * len) + o)) (mask_after 7 Forward s e (p * (2 * len) + o + len))

      low : (p o : ℕ) (a : p < count) (b : o < len) →
          Same (neg B) (u p o * f (p * (2 * len) + o) + v p o * f (p * (2 * len) + o + len)) (u p o * g (p * (2 * len) + o) + v p o * g (p * (2 * len) + o + len))
      low p o a b =
          same_sym ((laws.forward_layers s l e e' f).at p o a b).low ⨾ same (p * (2 * len) + o) (omega (arith, at_low len count p o a b, all))
          ⨾ ((laws.forward_layers s l e e' g).at p o a b).low

      high : (p o : ℕ) (a : p < count) (b : o < len) →
          Same (neg B) (u p o * f (p * (2 * len) + o) + neg B * (v p o * f (p * (2 * len) + o + len))) (u p o * g (p * (2 * len) + o) + neg B * (v p o * g (p * (2 * len) + o + len)))
      high p o a b =
          same_sym ((laws.forward_layers s l e e' f).at p o a b).high ⨾ same (p * (2 * len) + o + len) (omega (arith, at_high len count p o a b, all))
          ⨾ ((laws.forward_layers s l e e' g).at p o a b).high

  -- the last factor has an inverse
  factor_unit : (s : ℕ) → (d : ℕ) × Same (neg B) (d * last_factor 7 (inverse_of_128 B) s) 1
  factor_unit s = go (ltb s 7)
    where
      go : (b : Bool) → (d : ℕ) × Same (neg B) (d * cond b 1 (inverse_of_128 B)) 1
      go true = (1, same_refl)
      go false = (2 ^ 7, same_of (omega arith) ⨾ unit)

  inverse_rows : (s : ℕ) → s < 7 → (e e' : List ℕ) (f g : ℕ → ℕ) →
      ((j : ℕ) → j < 256 → Same (neg B) (masked_layer 7 (neg B) B.root (inverse_of_128 B) Inverse (suc s) e e' f j) (masked_layer 7 (neg B) B.root (inverse_of_128 B) Inverse (suc s) e e' g j)) →
      (j : ℕ) → j < 256 → Same (neg B) (f j) (g j)
  inverse_rows s l e e' f g same j h =
      in_halves len count (pow_pos (suc s + 7 - 7)) (λ j. Same (neg B) (f j) (g j))
      (λ p o a b. from_both_second (inverse_of_128 B * 64) two _ _ _ _ (same_of (omega arith) ⨾ low p o a b ⨾ same_of (omega arith)) (high p o a b))
      (λ p o a b. from_both_first (inverse_of_128 B * 64) two _ _ _ _ (same_of (omega arith) ⨾ low p o a b ⨾ same_of (omega arith)) (high p o a b))
      j (omega (arith, all))
    where
      len : ℕ
      len = inverse_len 7 (suc s)

      count : ℕ
      count = inverse_groups 7 (suc s)

      done : s + suc (6 - s) ≡ 7
      done = omega arith

      all : count * (2 * len) ≡ 256
      all = rw (inverse_groups_is 7 s (6 - s) (omega arith) done, inverse_len_is 7 s (6 - s) (omega arith) done) (whole (6 - s) (omega arith))

      c : ℕ
      c = last_factor 7 (inverse_of_128 B) (suc s)

      d : (d : ℕ) × Same (neg B) (d * c) 1
      d = factor_unit (suc s)

      low : (p o : ℕ) (a : p < count) (b : o < len) → Same (neg B) (f (p * (2 * len) + o) + f (p * (2 * len) + o + len)) (g (p * (2 * len) + o) + g (p * (2 * len) + o + len))
      low p o a b =
          cancel_power B.root root _ _ _ (cancel_factor c d.0 _ _ d.1
          (same_sym ((laws.inverse_layers s l e e' f).at p o a b).low ⨾ same (p * (2 * len) + o) (omega (arith, at_low len count p o a b, all)) ⨾ ((laws.inverse_layers s l e e' g).at p o a b).low))

      high : (p o : ℕ) (a : p < count) (b : o < len) →
          Same (neg B) (f (p * (2 * len) + o + len) + neg B * f (p * (2 * len) + o)) (g (p * (2 * len) + o + len) + neg B * g (p * (2 * len) + o))
      high p o a b =
          cancel_power B.root root _ _ _ (cancel_factor c d.0 _ _ d.1
          (same_sym ((laws.inverse_layers s l e e' f).at p o a b).high ⨾ same (p * (2 * len) + o + len) (omega (arith, at_high len count p o a b, all)) ⨾ ((laws.inverse_layers s l e e' g).at p o a b).high))

  pub layer_injective : (way : Direction) (s : ℕ) (e e' x y : List ℕ) → s < 7 → Good B x → Good B y → layer_under B way (suc s) e e' x ≡ layer_under B way (suc s) e e' y → x ≡ y
  unfolding layer_under
  layer_injective Forward s e e' x y l gx gy h = agree B x y gx gy (forward_rows s l e e' (coefficient x) (coefficient y) (from_listed _ _ h))
  layer_injective Inverse s e e' x y l gx gy h = agree B x y gx gy (inverse_rows s l e e' (coefficient x) (coefficient y) (from_listed _ _ h))
