-- The groups of a layer, and the whole layer under its lists of masks.
use Rattle.std.proofs.Common.{◌≡◌, ℕ, zero, suc, pred, ◌+◌, ◌-◌, ◌*◌, ◌/◌, ◌%◌, ◌^◌, ◌<◌, ◌≤◌, Bool, true, false, cond, ltb, List, sym, refl, ap, ◌∙◌, subst, arith, lit<, pow-add}
use native.Mathlib.Nat.{div-add-mod, mod-zero, pow-le-pow_right, pow-succ'}
use Rattle.algebra.specs.declared.Direction.TheVariants.{Forward, Inverse}
use Rattle.algebra.specs.Congruence.{Same}
use Rattle.algebra.specs.Layers.{bitrev, forward_len, forward_groups, forward_exponent, inverse_len, inverse_groups, inverse_exponent, layers}
use Rattle.algebra.specs.Masks.{suits, mask_after, Holds, ForwardLayer, InverseLayer}
use Rattle.algebra.proofs.Modular.{same_by}
use Rattle.algebra.proofs.MaskLists.{forward_step_listed}
use Rattle.engine.specs.Rows.{held, GroupWritten, LayerWritten}
use Rattle.engine.specs.Pairs.{forward_pairs, inverse_pairs}
use Rattle.engine.specs.Steps.{WentForward}
use Rattle.engine.proofs.Numbers.{forward_under, inverse_under, with_factor}
use Rattle.engine.proofs.Rows.{past, layer_more}
use Rattle.engine.proofs.Carrying.{forward_incoming, forward_outgoing, inverse_incoming, inverse_outgoing}

-- the groups fill the row
pub few : (k : ℕ) → k ≤ 6 → 2 ^ k ≤ 64
few k h = pow-le-pow_right {n = 2} (lit< tt) {i = k} {j = 6} h

fits : (a b g : ℕ) → a + b ≡ 7 → g < 2 ^ a → g * (2 * 2 ^ b) + 2 * 2 ^ b ≤ 256
fits a b g e l =
    let whole : 2 ^ a * 2 ^ b ≡ 128 = sym (pow-add 2 a b) ∙ ap (λ (k : ℕ). 2 ^ k) e in
    omega (arith, past g (2 ^ a) (2 ^ b) l)

pub forward_fits : (s g : ℕ) → 1 ≤ s → s ≤ 7 → g < forward_groups s → g * (2 * forward_len s) + 2 * forward_len s ≤ 256
forward_fits s g h k = fits (s - 1) (8 - s) g (omega arith)

pub inverse_fits : (s g : ℕ) → 1 ≤ s → s ≤ 7 → g < inverse_groups 7 s → g * (2 * inverse_len 7 s) + 2 * inverse_len 7 s ≤ 256
inverse_fits s g h k = fits (7 - s) (s + 7 - 7) g (omega arith)

-- the law of a ring's root, as the algebra has it
pub half_turn : (m x : ℕ) → (x + 1) % m ≡ 0 → Same (pred m) x (pred m)
half_turn zero x e = absurd (omega (arith, mod-zero (x + 1)))
half_turn (suc neg) x e = same_by 1 ((x + 1) / suc neg) (omega (arith, div-add-mod (x + 1) (suc neg), e))

-- one group more, under the layer's lists
pub next_group : {W : Type 0} (element : W → Bool) (f : W → ℕ) (pair : (z len g : ℕ) (before list : List ℕ) → ℕ → ℕ → ℕ → ℕ → ℕ → Type 0) (exponent : ℕ → ℕ)
    (len n : ℕ) (before list : List ℕ) (ws ws₁ ws₂ : List W) (index half z : ℕ) (came goes : List ℕ) →
    index ≡ n → half ≡ len → z ≡ exponent n → came ≡ before → goes ≡ list → LayerWritten element f len n (λ g. pair (exponent g) len g before list) ws ws₁ →
    GroupWritten element f (index * (2 * half)) half half (pair z half index came goes) ws₁ ws₂ → LayerWritten element f len (n + 1) (λ g. pair (exponent g) len g before list) ws ws₂
next_group element f pair exponent len n before list ws ws₁ ws₂ index half z came goes ei eh ez ec eg l u =
    layer_more element f len n (λ g. pair (exponent g) len g before list) ws ws₁ ws₂ l (rw (ei, eh, ez, ec, eg) at u)

-- a layer that is not the last has the factor 1
no_factor : (b : Bool) → ◌≡◌ {A = ℕ} (cond b 1 1) 1
no_factor true = refl
no_factor false = refl

-- all groups are the layer
module _ {W : Type 0} (element : W → Bool) (f : W → ℕ) (neg w t : ℕ) (low : t < 7) (before list : List ℕ)
    (came : suits 7 t before ≡ true) (goes : suits 7 (suc t) list ≡ true) (ws ws' : List W) where
  forward_whole : LayerWritten element f (forward_len (suc t)) (forward_groups (suc t)) (forward_pairs neg w (suc t) (forward_len (suc t)) before list) ws ws' →
      ForwardLayer 7 neg w (suc t) (mask_after 7 Forward t before) (mask_after 7 Forward (suc t) list) (held f ws) (held f ws')
  forward_whole l = record {
    at = λ g o a b.
        let len : ℕ = forward_len (suc t) in
        let next : g * (2 * len) + (o + len) ≡ g * (2 * len) + o + len = omega arith in
        forward_under neg w _ _ _ _ _ _ _ _ _ _ _ _ refl
        (sym (forward_incoming t before low came g o a (omega arith)))
        (sym (ap (mask_after 7 Forward t before) (sym next) ∙ forward_incoming t before low came g (o + len) a (omega arith)))
        (sym (forward_outgoing (suc t) list (omega arith) low goes g o a b))
        (l.here g o a b);
  }

  inverse_whole : LayerWritten element f (inverse_len 7 (suc t)) (inverse_groups 7 (suc t)) (inverse_pairs neg w (suc t) (inverse_len 7 (suc t)) before list) ws ws' →
      InverseLayer 7 neg w 1 (suc t) (mask_after 7 Inverse t before) (mask_after 7 Inverse (suc t) list) (held f ws) (held f ws')
  inverse_whole l = record {
    at = λ g o a b.
        let len : ℕ = inverse_len 7 (suc t) in
        let next : g * (2 * len) + (o + len) ≡ g * (2 * len) + o + len = omega arith in
        with_factor (sym (no_factor (ltb (suc t) 7)))
        (inverse_under neg w _ _ _ _ _ _ _ _ _ _ _ _ refl
        (sym (inverse_incoming t before low came g o a b))
        (sym (inverse_outgoing (suc t) list (omega arith) low goes g o a (omega arith)))
        (sym (ap (mask_after 7 Inverse (suc t) list) (sym next) ∙ inverse_outgoing (suc t) list (omega arith) low goes g (o + len) a (omega arith)))
        (l.here g o a b));
  }

-- by the layer's number s, from 1 to 7
module _ {W : Type 0} (element : W → Bool) (f : W → ℕ) (m w : ℕ) (turn : (w ^ 128 + 1) % m ≡ 0) (before list : List ℕ) (n : ℕ) (ws ws' : List W) where
  pub went_forward : (s : ℕ) → 1 ≤ s → s ≤ 7 → suits 7 (s - 1) before ≡ true → suits 7 s list ≡ true → n ≡ forward_groups s →
      LayerWritten element f (forward_len s) n (forward_pairs (pred m) w s (forward_len s) before list) ws ws' → WentForward (pred m) w s before list (held f ws) (held f ws')
  went_forward zero h k came goes en l = absurd (omega arith)
  went_forward (suc t) h k came goes en l =
      let e : suc t - 1 ≡ t = omega arith in
      let layer = forward_whole element f (pred m) w t k before list (rw e at came) goes ws ws' (rw en at l) in
      record {
        layer = subst (λ (q : ℕ). ForwardLayer 7 (pred m) w (suc t) (mask_after 7 Forward q before) (mask_after 7 Forward (suc t) list) (held f ws) (held f ws')) (sym e) layer;
        step = λ g holds.
            forward_step_listed 7 w (omega arith) (half_turn m (w ^ 128) turn) t k before list g (held f ws) (held f ws')
            (subst (λ (q : ℕ). Holds (pred m) w (mask_after 7 Forward q before) (layers 7 (pred m) w q g) (held f ws)) e holds) layer;
      }

  pub went_back_unscaled : (s : ℕ) → 1 ≤ s → s ≤ 7 → suits 7 (s - 1) before ≡ true → suits 7 s list ≡ true → n ≡ inverse_groups 7 s →
      LayerWritten element f (inverse_len 7 s) n (inverse_pairs (pred m) w s (inverse_len 7 s) before list) ws ws' →
      InverseLayer 7 (pred m) w 1 s (mask_after 7 Inverse (s - 1) before) (mask_after 7 Inverse s list) (held f ws) (held f ws')
  went_back_unscaled zero h k came goes en l = absurd (omega arith)
  went_back_unscaled (suc t) h k came goes en l =
      let e : suc t - 1 ≡ t = omega arith in
      subst (λ (q : ℕ). InverseLayer 7 (pred m) w 1 (suc t) (mask_after 7 Inverse q before) (mask_after 7 Inverse (suc t) list) (held f ws) (held f ws')) (sym e)
      (inverse_whole element f (pred m) w t k before list (rw e at came) goes ws ws' (rw en at l))

-- the exponents that the code looks up
pub forward_exponent_by : (s count g z : ℕ) → count ≡ forward_groups s → z ≡ bitrev 7 (count + g) → z ≡ forward_exponent 7 s g
unfolding forward_exponent
forward_exponent_by s count g z ec ez = ez ∙ ap (λ (k : ℕ). bitrev 7 (k + g)) ec

pub inverse_exponent_by : (s count g z : ℕ) → s ≤ 7 → count ≡ inverse_groups 7 s → z ≡ bitrev 7 (2 * count - 1 - g) → z ≡ inverse_exponent 7 s g
unfolding inverse_exponent
inverse_exponent_by s count g z h ec ez =
    let up : 8 - s ≡ suc (7 - s) = omega arith in
    let twice : 2 * count ≡ 2 ^ (8 - s) = ap (λ (k : ℕ). 2 * k) ec ∙ sym (ap (λ (k : ℕ). 2 ^ k) up ∙ pow-succ' 2 (7 - s)) in
    ez ∙ ap (λ (k : ℕ). bitrev 7 (k - 1 - g)) twice
