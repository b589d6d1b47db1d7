-- The masks of lists, the layers position by position, and whole runs of masked layers.
use Rattle.std.proofs.Common.{◌≡◌, ℕ, zero, suc, ◌+◌, ◌-◌, ◌*◌, ◌/◌, ◌%◌, ◌^◌, ◌<◌, ◌≤◌, cond, ltb, List, get_or, sym, refl, ap, ◌∙◌, ap₂, arith, pow_pos}
use native.Mathlib.Nat.{pow-zero}
use lib.Arith.{digits_div, digits_mod}
use Rattle.std.proofs.lemmas.Bool.{lt-ltb, le-ltb}
use Rattle.algebra.specs.declared.Direction.{Direction}
use Rattle.algebra.specs.declared.Direction.TheVariants.{Forward, Inverse}
use Rattle.algebra.specs.Congruence.{Same}
use Rattle.algebra.specs.Layers.{forward_len, forward_groups, inverse_len, inverse_groups, last_factor, layers, inv_layers, inv_stage}
use Rattle.algebra.specs.Masks.{Holds, ForwardLayer, InverseLayer, butterfly, block, carrying_len, mask_after, masked_forward, masked_inverse, masked_layer}
use Rattle.algebra.specs.Theorems.{Carries}
use Rattle.algebra.proofs.Modular.{same_of, same_refl, same_sym, ◌⨾◌, same_mul_left}
use Rattle.algebra.proofs.Layers.{in_halves}
use Rattle.algebra.proofs.Inverse.{whole}
use Rattle.algebra.proofs.Steps.{forward_len_is, inverse_len_is, layers_zero, layers_suc, inv_layers_zero, inv_layers_suc}
use Rattle.algebra.proofs.Masks.{Shared, forward_as_groups, inverse_as_groups, forward_step, inverse_step}

module _ (len g o : ℕ) (h : o < len) where
  butterfly_low : butterfly len (g * (2 * len) + o) ≡ len * g + o
  butterfly_low =
      let l : o < 2 * len = omega arith in
      let e : g * (2 * len) + o ≡ 2 * g * len + o = omega arith in
      let m : (g * (2 * len) + o) % len ≡ o = ap (λ n. n % len) e ∙ digits_mod (2 * g) h in
      ap₂ (λ s t. len * s + t) (digits_div g l) m

  butterfly_high : butterfly len (g * (2 * len) + o + len) ≡ len * g + o
  butterfly_high =
      let l : o + len < 2 * len = omega arith in
      let d : g * (2 * len) + o + len ≡ g * (2 * len) + (o + len) = omega arith in
      let e : g * (2 * len) + o + len ≡ (2 * g + 1) * len + o = omega arith in
      let m : (g * (2 * len) + o + len) % len ≡ o = ap (λ n. n % len) e ∙ digits_mod (2 * g + 1) h in
      ap₂ (λ s t. len * s + t) (ap (λ n. n / (2 * len)) d ∙ digits_div g l) m

-- the masks after suc s layers are shared in the layer whose butterflies carry them
carried_shared : (L : ℕ) (way : Direction) (s : ℕ) (bytes : List ℕ) (count : ℕ) → Shared (carrying_len L way (suc s)) count (mask_after L way (suc s) bytes)
unfolding mask_after
carried_shared L way s bytes count =
    record {
      one = λ g o k l.
          ap (λ n. cond (ltb (suc s) L) (get_or bytes (block bytes n) 0) 0)
          (butterfly_high (carrying_len L way (suc s)) g o l ∙ sym (butterfly_low (carrying_len L way (suc s)) g o l));
    }

-- forward, both results of layer suc t
shared_forward : (L t : ℕ) (bytes : List ℕ) → Shared (2 ^ (7 - t)) (2 ^ t) (mask_after L Forward (suc t) bytes)
unfolding carrying_len
shared_forward L t bytes = rw (forward_len_is t) at (carried_shared L Forward t bytes (2 ^ t))

-- of the inverse, both inputs of layer suc s
shared_inverse : (L s t : ℕ) (bytes : List ℕ) → L ≤ 8 → s + suc t ≡ L → Shared (2 ^ (7 - t)) (2 ^ t) (mask_after L Inverse s bytes)
unfolding carrying_len mask_after
shared_inverse L zero t bytes top sum = record { one = λ g o k l. refl }
shared_inverse L (suc s) t bytes top sum = rw (inverse_len_is L (suc s) t top sum) at (carried_shared L Inverse s bytes (2 ^ t))

-- and carry the byte of the butterfly's block
carried : (L : ℕ) (way : Direction) (s : ℕ) (bytes : List ℕ) (count : ℕ) → suc s < L →
    Carries (carrying_len L way (suc s)) count bytes (mask_after L way (suc s) bytes)
unfolding mask_after
carried L way s bytes count h =
    record {
      low = λ g o k l. rw (lt-ltb (suc s) L h) (ap (λ n. get_or bytes (block bytes n) 0) (butterfly_low (carrying_len L way (suc s)) g o l));
      high = λ g o k l. rw (lt-ltb (suc s) L h) (ap (λ n. get_or bytes (block bytes n) 0) (butterfly_high (carrying_len L way (suc s)) g o l));
    }

pub carries_forward : (L s : ℕ) (bytes : List ℕ) → 0 < s → s < L → Carries (forward_len s) (forward_groups s) bytes (mask_after L Forward s bytes)
unfolding carrying_len
carries_forward L zero bytes h l = absurd (omega arith)
carries_forward L (suc s) bytes h l = carried L Forward s bytes (forward_groups (suc s)) l

pub carries_inverse : (L s : ℕ) (bytes : List ℕ) → 0 < s → s < L → Carries (inverse_len L (suc s)) (inverse_groups L (suc s)) bytes (mask_after L Inverse s bytes)
unfolding carrying_len
carries_inverse L zero bytes h l = absurd (omega arith)
carries_inverse L (suc s) bytes h l = carried L Inverse s bytes (inverse_groups L (suc (suc s))) l

-- no mask before the first layer and after the last
pub mask_none : (L : ℕ) (way : Direction) (bytes : List ℕ) (j : ℕ) → mask_after L way 0 bytes j ≡ 0
unfolding mask_after
mask_none L way bytes j = refl

pub mask_end : (L : ℕ) (way : Direction) (bytes : List ℕ) (j : ℕ) → mask_after L way L bytes j ≡ 0
unfolding mask_after
mask_end zero way bytes j = refl
mask_end (suc s) way bytes j = rw (le-ltb (suc s) (suc s) (omega arith))

-- position by position is butterfly by butterfly
module _ (L neg w s : ℕ) (e d h : ℕ → ℕ) where
  pub masked_forward_is : ForwardLayer L neg w s e d h (masked_forward L neg w s e d h)
  unfolding masked_forward
  masked_forward_is =
      let len : ℕ = forward_len s in
      record {
        at = λ g o k l.
            let a : o < 2 * len = omega arith in
            let b : o + len < 2 * len = omega arith in
            let c : g * (2 * len) + o + len ≡ g * (2 * len) + (o + len) = omega arith in
            let m : g * (2 * len) + (o + len) - len ≡ g * (2 * len) + o = omega arith in
            record {
              low = rw (digits_mod g a, digits_div g a, lt-ltb o len l) same_refl;
              high = rw (c, digits_mod g b, digits_div g b, le-ltb (o + len) len (omega arith), m) same_refl;
            };
      }

  pub masked_inverse_is : (i : ℕ) → InverseLayer L neg w i s e d h (masked_inverse L neg w i s e d h)
  unfolding masked_inverse
  masked_inverse_is i =
      let len : ℕ = inverse_len L s in
      record {
        at = λ g o k l.
            let a : o < 2 * len = omega arith in
            let b : o + len < 2 * len = omega arith in
            let c : g * (2 * len) + o + len ≡ g * (2 * len) + (o + len) = omega arith in
            let m : g * (2 * len) + (o + len) - len ≡ g * (2 * len) + o = omega arith in
            record {
              low = rw (digits_mod g a, lt-ltb o len l) same_refl;
              high = rw (c, digits_mod g b, digits_div g b, le-ltb (o + len) len (omega arith), m) same_refl;
            };
      }

pub forward_layer_is : (L neg w i s : ℕ) (incoming outgoing : List ℕ) (h : ℕ → ℕ) →
    ForwardLayer L neg w (suc s) (mask_after L Forward s incoming) (mask_after L Forward (suc s) outgoing) h (masked_layer L neg w i Forward (suc s) incoming outgoing h)
unfolding masked_layer
forward_layer_is L neg w i s incoming outgoing h =
    let e : s ≡ suc s - 1 = omega arith in
    rw (ap (λ k. mask_after L Forward k incoming) e) (masked_forward_is L neg w (suc s) _ _ h)

pub inverse_layer_is : (L neg w i s : ℕ) (incoming outgoing : List ℕ) (h : ℕ → ℕ) →
    InverseLayer L neg w i (suc s) (mask_after L Inverse s incoming) (mask_after L Inverse (suc s) outgoing) h (masked_layer L neg w i Inverse (suc s) incoming outgoing h)
unfolding masked_layer
inverse_layer_is L neg w i s incoming outgoing h =
    let e : s ≡ suc s - 1 = omega arith in
    rw (ap (λ k. mask_after L Inverse k incoming) e) (masked_inverse_is L neg w (suc s) _ _ h i)

-- a layer determines what it writes
pub forward_layer_one : {neg : ℕ} (L w t : ℕ) → t < 8 → (e d h h₁ h₂ : ℕ → ℕ) →
    ForwardLayer L neg w (suc t) e d h h₁ → ForwardLayer L neg w (suc t) e d h h₂ → (j : ℕ) → j < 256 → Same neg (h₁ j) (h₂ j)
forward_layer_one {neg} L w t low e d h h₁ h₂ M N j k =
    let A = forward_as_groups L neg w t e d h h₁ M in
    let B = forward_as_groups L neg w t e d h h₂ N in
    let all : 2 ^ t * (2 * 2 ^ (7 - t)) ≡ 256 = whole t low in
    in_halves (2 ^ (7 - t)) (2 ^ t) (pow_pos (7 - t)) (λ j. Same neg (h₁ j) (h₂ j))
    (λ g o a b. (A.at g o a b).low ⨾ same_sym (B.at g o a b).low)
    (λ g o a b. (A.at g o a b).high ⨾ same_sym (B.at g o a b).high) j (rw all k)

pub inverse_layer_one : {neg : ℕ} (L w i s : ℕ) → L ≤ 8 → s < L → (e d h h₁ h₂ : ℕ → ℕ) →
    InverseLayer L neg w i (suc s) e d h h₁ → InverseLayer L neg w i (suc s) e d h h₂ → (j : ℕ) → j < 256 → Same neg (h₁ j) (h₂ j)
inverse_layer_one {neg} L w i s top low e d h h₁ h₂ M N j k =
    let t : ℕ = L - suc s in
    let A = inverse_as_groups L neg w i s t e d h h₁ top (omega arith) M in
    let B = inverse_as_groups L neg w i s t e d h h₂ top (omega arith) N in
    let all : 2 ^ t * (2 * 2 ^ (7 - t)) ≡ 256 = whole t (omega arith) in
    in_halves (2 ^ (7 - t)) (2 ^ t) (pow_pos (7 - t)) (λ j. Same neg (h₁ j) (h₂ j))
    (λ g o a b. (A.at g o a b).low ⨾ same_sym (B.at g o a b).low)
    (λ g o a b. (A.at g o a b).high ⨾ same_sym (B.at g o a b).high) j (rw all k)

-- the inverse before its last layer has no factor yet
unscaled : (L neg w i s : ℕ) (f : ℕ → ℕ) (j : ℕ) → s < L → inv_stage L neg w i s f j ≡ inv_layers L neg w s f j
unfolding inv_stage
unscaled L neg w i s f j h = rw (lt-ltb s L h) (omega arith)

module _ {neg : ℕ} (L w : ℕ) (top : L ≤ 8) (root : Same neg (w ^ (2 ^ L)) neg) where
  pub forward_step_listed : (s : ℕ) → s < L → (before list : List ℕ) (f h h' : ℕ → ℕ) →
      Holds neg w (mask_after L Forward s before) (layers L neg w s f) h →
      ForwardLayer L neg w (suc s) (mask_after L Forward s before) (mask_after L Forward (suc s) list) h h' →
      Holds neg w (mask_after L Forward (suc s) list) (layers L neg w (suc s) f) h'
  forward_step_listed s l before list f h h' held M =
      rw (layers_suc L neg w s f)
      (forward_step L w root s (omega arith) _ _ (layers L neg w s f) h h' held (shared_forward L s list) (forward_as_groups L neg w s _ _ h h' M))

  pub inverse_step_listed : (i s : ℕ) → s < L → (before list : List ℕ) (f h h' : ℕ → ℕ) →
      Holds neg w (mask_after L Inverse s before) (inv_stage L neg w i s f) h →
      InverseLayer L neg w i (suc s) (mask_after L Inverse s before) (mask_after L Inverse (suc s) list) h h' →
      Holds neg w (mask_after L Inverse (suc s) list) (inv_stage L neg w i (suc s) f) h'
  unfolding inv_stage
  inverse_step_listed i s l before list f h h' held M =
      let t : ℕ = L - suc s in
      let sum : s + suc t ≡ L = omega arith in
      let plain : Holds neg w (mask_after L Inverse s before) (inv_layers L neg w s f) h =
      record { at = λ j k. held.at j k ⨾ same_mul_left _ (same_of (unscaled L neg w i s f j l)) } in
      let next = inverse_step L w root t (omega arith) _ _ (inv_layers L neg w s f) h h' plain (last_factor L i (suc s))
      (shared_inverse L s t before top sum) (inverse_as_groups L neg w i s t _ _ h h' top sum M) in
      record { at = λ j k. next.at j k ⨾ same_mul_left _ (same_mul_left _ (same_of (ap (λ q. q j) (sym (inv_layers_suc L neg w s t f top sum))))) }

  -- whole runs: h s is what is held after s layers, of which layer s took lists s
  module _ (lists : ℕ → List ℕ) (h : ℕ → ℕ → ℕ) where
    unmasked : (way : Direction) (f : ℕ → ℕ) → ((j : ℕ) → f j ≡ h 0 j) → Holds neg w (mask_after L way 0 (lists 0)) f (h 0)
    unmasked way f e = record { at = λ j k. rw (mask_none L way (lists 0) j, pow-zero w, e j) (same_of (omega arith)) }

    pub forward_run : ((s : ℕ) → s < L → ForwardLayer L neg w (suc s) (mask_after L Forward s (lists s)) (mask_after L Forward (suc s) (lists (suc s))) (h s) (h (suc s))) →
        (s : ℕ) → s ≤ L → Holds neg w (mask_after L Forward s (lists s)) (layers L neg w s (h 0)) (h s)
    forward_run M zero l = unmasked Forward _ (λ j. ap (λ q. q j) (layers_zero L neg w (h 0)))
    forward_run M (suc s) l = forward_step_listed s l (lists s) (lists (suc s)) (h 0) (h s) (h (suc s)) (forward_run M s (omega arith)) (M s l)

    pub inverse_run : (i : ℕ) → 0 < L →
        ((s : ℕ) → s < L → InverseLayer L neg w i (suc s) (mask_after L Inverse s (lists s)) (mask_after L Inverse (suc s) (lists (suc s))) (h s) (h (suc s))) →
        (s : ℕ) → s ≤ L → Holds neg w (mask_after L Inverse s (lists s)) (inv_stage L neg w i s (h 0)) (h s)
    inverse_run i some M zero l = unmasked Inverse _ (λ j. unscaled L neg w i 0 (h 0) j some ∙ ap (λ q. q j) (inv_layers_zero L neg w (h 0)))
    inverse_run i some M (suc s) l = inverse_step_listed i s l (lists s) (lists (suc s)) (h 0) (h s) (h (suc s)) (inverse_run i some M s (omega arith)) (M s l)
