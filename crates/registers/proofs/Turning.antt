-- A layer of a register: the part of the words that is lent to the engine, and what comes back.
use Rattle.std.proofs.Common.{◌≡◌, ℕ, zero, suc, pred, ◌+◌, ◌-◌, ◌*◌, ◌^◌, ◌<◌, ◌≤◌, Bool, ◌⊎◌, List, map, length, get_or, take, drop, sym, ap, ◌∙◌, subst, ⊎_elim, arith, length-drop, length-take}
use mathlib.Core.Option.{none}
use borrow.Rule.Slice.PartMut.{put_mid, mid_of, same_len_mid}
use Rattle.std.proofs.lemmas.List.{get_or-take, get_or-drop, get_or-map}
use Rattle.std.proofs.lemmas.Slice.{between-put_mid, take-put_mid_below, drop-put_mid}
use Rattle.algebra.specs.declared.Direction.{Direction}
use Rattle.algebra.specs.declared.Direction.TheVariants.{Forward, Inverse}
use Rattle.algebra.specs.Congruence.{Same}
use Rattle.algebra.specs.Masks.{mask_after, ForwardLayer, InverseLayer}
use Rattle.algebra.specs.Theorems.{Laws}
use Rattle.algebra.proofs.Modular.{same_of, same_sym, ◌⨾◌}
use Rattle.algebra.proofs.MaskLists.{forward_layer_one, inverse_layer_one}
use Rattle.algebra.proofs.Theorems.{transforms}
use Rattle.rings.specs.Refusals.{flaw}
use Rattle.rings.proofs.Flaws.{at_none}
use Rattle.engine.specs.Rows.{Elements, held}
use Rattle.engine.specs.Steps.{InverseOf128}
use Rattle.engine.proofs.Layering.{half_turn}
use Rattle.guarded.specs.Model.{Guarded, Lawful}
use Rattle.histories.specs.Operations.{neg, inverse_of_128, layer_under}
use Rattle.histories.specs.Calls.{part, meanings}
use Rattle.histories.specs.Serves.{Meaning}
use Rattle.histories.proofs.Whole.{unit_of, full_odd}
use Rattle.registers.specs.Rows.{Only}
use Rattle.registers.proofs.Rows.{only_by, width, lent_part}
use Rattle.registers.proofs.Meanings.{meaning_by}

pub lent_size : {W : Type 0} (ws : List W) (r : ℕ) → length ws ≡ 2048 → r < 8 → length (mid_of (256 * r) (256 * r + 256 - 256 * r) ws) ≡ 256
lent_size ws r size known = simp (length-take, length-drop) (omega arith)

pub lent_elements : {W : Type 0} (t : W → Bool) (ws : List W) (r : ℕ) → flaw t (part ws r) ≡ none → Elements t (mid_of (256 * r) (256 * r + 256 - 256 * r) ws)
lent_elements t ws r h = subst (Elements t) (sym (lent_part ws r)) (record { at = λ k d l. at_none t (part ws r) h k d l })

module _ {W : Type 0} (ws ys : List W) (r : ℕ) (size : length ws ≡ 2048) (known : r < 8) (room : length ys ≡ 256) where
  abbrev base : ℕ
  base = 256 * r

  abbrev back : List W
  back = put_mid base (base + 256 - base) ws ys

  pub returned_part : part back r ≡ ys
  unfolding part
  returned_part =
      ap (λ (n : ℕ). take n (drop base back)) (sym (width base)) ∙ between-put_mid base (base + 256 - base) ws ys (base + 256) (omega arith) (room ∙ sym (width base))

  back_size : length back ≡ length ws
  back_size = same_len_mid base (base + 256 - base) ws ys (room ∙ sym (lent_size ws r size known))

  outside : (j : ℕ) (e : W) → (j < base) ⊎ (base + 256 ≤ j) → get_or back j e ≡ get_or ws j e
  outside j e h = ⊎_elim
      (λ (l : j < base).
      sym (get_or-take base back j e l) ∙ ap (λ (xs : List W). get_or xs j e) (take-put_mid_below base (base + 256 - base) ws ys base (omega arith) (omega arith)) ∙ get_or-take base ws j e l)
      (λ (l : base + 256 ≤ j).
      let i : ℕ = j - (base + 256) in
      let q : j ≡ base + 256 + i = omega arith in
      rw q (sym (get_or-drop (base + 256) back i e)
      ∙ ap (λ (xs : List W). get_or xs i e) (drop-put_mid base (base + 256 - base) ws ys (base + 256) (omega arith) (omega arith) (room ∙ sym (width base)))
      ∙ get_or-drop (base + 256) ws i e))
      h

  pub returned_only : Only r ws back
  returned_only = only_by r ws back back_size outside

module _ {W : Type 0} (G : Guarded W) (law : Lawful G) where
  laws : Laws 7 (neg (meanings G)) G.w (inverse_of_128 (meanings G))
  laws =
      transforms 7 (neg (meanings G)) G.w (inverse_of_128 (meanings G)) (omega arith) (half_turn (3329 * G.p) (G.w ^ 128) law.halfway)
      (unit_of (meanings G) (full_odd G law))

  module _ (ws ws' : List W) (room : length ws' ≡ 256) (all : Elements G.element ws') (before list : List ℕ) where
    from_same : (F : ℕ → ℕ) → ((j : ℕ) → j < 256 → Same (neg (meanings G)) (held G.meaning ws' j) (F j)) → (k : ℕ) (e : W) → k < 256 →
        Same (neg (meanings G)) (F k) (G.meaning (get_or ws' k e))
    from_same F h k e l = same_sym (h k l) ⨾ same_of (get_or-map G.meaning ws' k e 0 (omega arith))

    pub forward_turned : (s : ℕ) → 1 ≤ s → s ≤ 7 →
        ForwardLayer 7 (neg (meanings G)) G.w s (mask_after 7 Forward (s - 1) before) (mask_after 7 Forward s list) (held G.meaning ws) (held G.meaning ws') →
        Meaning G (layer_under (meanings G) Forward s before list (map G.meaning ws)) ws'
    unfolding layer_under
    forward_turned zero a b layer = absurd (omega arith)
    forward_turned (suc t) a b layer =
        let e : suc t - 1 ≡ t = omega arith in
        meaning_by G law _ ws' room (λ k d l. all.at k d (omega arith))
        (from_same _ (forward_layer_one 7 G.w t (omega arith) _ _ (held G.meaning ws) _ _
        (subst (λ (q : ℕ). ForwardLayer 7 (neg (meanings G)) G.w (suc t) (mask_after 7 Forward q before) (mask_after 7 Forward (suc t) list) (held G.meaning ws) (held G.meaning ws')) e layer)
        (laws.forward_layers t b before list (held G.meaning ws))))

    pub inverse_turned : (s : ℕ) → 1 ≤ s → s ≤ 7 →
        InverseLayer 7 (neg (meanings G)) G.w (inverse_of_128 (meanings G)) s (mask_after 7 Inverse (s - 1) before) (mask_after 7 Inverse s list) (held G.meaning ws) (held G.meaning ws') →
        Meaning G (layer_under (meanings G) Inverse s before list (map G.meaning ws)) ws'
    unfolding layer_under
    inverse_turned zero a b layer = absurd (omega arith)
    inverse_turned (suc t) a b layer =
        let e : suc t - 1 ≡ t = omega arith in
        meaning_by G law _ ws' room (λ k d l. all.at k d (omega arith))
        (from_same _ (inverse_layer_one 7 G.w (inverse_of_128 (meanings G)) t (omega arith) b _ _ (held G.meaning ws) _ _
        (subst (λ (q : ℕ). InverseLayer 7 (neg (meanings G)) G.w (inverse_of_128 (meanings G)) (suc t) (mask_after 7 Inverse q before) (mask_after 7 Inverse (suc t) list) (held G.meaning ws) (held G.meaning ws')) e layer)
        (laws.inverse_layers t b before list (held G.meaning ws))))

  unit : InverseOf128 (neg (meanings G)) (inverse_of_128 (meanings G))
  unit = unit_of (meanings G) (full_odd G law)

  -- of the words with the part lent and back, where the engine's modulus is m
  module _ (m : ℕ) (joint : m ≡ 3329 * G.p) (ws ys : List W) (r : ℕ) (size : length ws ≡ 2048) (known : r < 8) (room : length ys ≡ 256)
      (all : Elements G.element ys) (s : ℕ) (first : 1 ≤ s) (last : s ≤ 7) (before list : List ℕ) where
    abbrev lent : List W
    lent = mid_of (256 * r) (256 * r + 256 - 256 * r) ws

    placed : (way : Direction) → Meaning G (layer_under (meanings G) way s before list (map G.meaning lent)) ys →
        Meaning G (layer_under (meanings G) way s before list (map G.meaning (part ws r))) (part (put_mid (256 * r) (256 * r + 256 - 256 * r) ws ys) r)
    placed way h =
        subst (λ (vs : List W). Meaning G (layer_under (meanings G) way s before list (map G.meaning (part ws r))) vs) (sym (returned_part ws ys r size known room))
        (subst (λ (vs : List W). Meaning G (layer_under (meanings G) way s before list (map G.meaning vs)) ys) (lent_part ws r) h)

    pub forward_placed : ForwardLayer 7 (pred m) G.w s (mask_after 7 Forward (s - 1) before) (mask_after 7 Forward s list) (held G.meaning lent) (held G.meaning ys) →
        Meaning G (layer_under (meanings G) Forward s before list (map G.meaning (part ws r))) (part (put_mid (256 * r) (256 * r + 256 - 256 * r) ws ys) r)
    forward_placed layer =
        placed Forward (forward_turned lent ys room all before list s first last
        (subst (λ (n : ℕ). ForwardLayer 7 (pred n) G.w s (mask_after 7 Forward (s - 1) before) (mask_after 7 Forward s list) (held G.meaning lent) (held G.meaning ys)) joint layer))

    pub inverse_placed : ((i : ℕ) → InverseOf128 (pred m) i →
        InverseLayer 7 (pred m) G.w i s (mask_after 7 Inverse (s - 1) before) (mask_after 7 Inverse s list) (held G.meaning lent) (held G.meaning ys)) →
        Meaning G (layer_under (meanings G) Inverse s before list (map G.meaning (part ws r))) (part (put_mid (256 * r) (256 * r + 256 - 256 * r) ws ys) r)
    inverse_placed layer =
        placed Inverse (inverse_turned lent ys room all before list s first last
        (subst (λ (n : ℕ). (i : ℕ) → InverseOf128 (pred n) i →
        InverseLayer 7 (pred n) G.w i s (mask_after 7 Inverse (s - 1) before) (mask_after 7 Inverse s list) (held G.meaning lent) (held G.meaning ys)) joint layer
        (inverse_of_128 (meanings G)) unit))
