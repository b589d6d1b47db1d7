-- All seven layers with no mask.
use Rattle.std.proofs.Common.{◌≡◌, ℕ, ◌+◌, ◌-◌, List, subst, arith}
use native.Mathlib.Nat.{pow-zero}
use Rattle.algebra.specs.declared.Direction.TheVariants.{Forward, Inverse}
use Rattle.algebra.specs.Layers.{layers, inv_stage, ntt, inv_ntt}
use Rattle.algebra.specs.Masks.{Holds, mask_after}
use Rattle.algebra.proofs.Modular.{same_of, ◌⨾◌}
use Rattle.algebra.proofs.Steps.{layers_zero, inv_layers_zero}
use Rattle.algebra.proofs.MaskLists.{mask_none, mask_end}
use Rattle.engine.specs.Steps.{Agrees, WentForward, WentBack, unmasked_list}

module _ (neg w : ℕ) (f : ℕ → ℕ) where
  pub forward_start : Holds neg w (mask_after 7 Forward 0 (unmasked_list 0)) (layers 7 neg w 0 f) f
  forward_start = record { at = λ j k. rw (mask_none 7 Forward (unmasked_list 0) j, pow-zero w, layers_zero 7 neg w f) (same_of (omega arith)) }

  pub forward_end : (h : ℕ → ℕ) (s : ℕ) → s ≡ 7 → Holds neg w (mask_after 7 Forward s (unmasked_list s)) (layers 7 neg w s f) h → Agrees neg h (ntt 7 neg w f)
  unfolding ntt
  forward_end h s e H j k =
      (subst (λ (q : ℕ). Holds neg w (mask_after 7 Forward q (unmasked_list q)) (layers 7 neg w q f) h) e H).at j k
      ⨾ same_of (rw (mask_end 7 Forward (unmasked_list 7) j, pow-zero w) (omega arith))

  pub inverse_start : (i : ℕ) → Holds neg w (mask_after 7 Inverse 0 (unmasked_list 0)) (inv_stage 7 neg w i 0 f) f
  unfolding inv_stage
  inverse_start i = record { at = λ j k. rw (mask_none 7 Inverse (unmasked_list 0) j, pow-zero w, inv_layers_zero 7 neg w f) (same_of (omega arith)) }

  pub inverse_end : (i : ℕ) (h : ℕ → ℕ) (s : ℕ) → s ≡ 7 → Holds neg w (mask_after 7 Inverse s (unmasked_list s)) (inv_stage 7 neg w i s f) h → Agrees neg h (inv_ntt 7 neg w i f)
  unfolding inv_ntt inv_stage
  inverse_end i h s e H j k =
      (subst (λ (q : ℕ). Holds neg w (mask_after 7 Inverse q (unmasked_list q)) (inv_stage 7 neg w i q f) h) e H).at j k
      ⨾ same_of (rw (mask_end 7 Inverse (unmasked_list 7) j, pow-zero w) (omega arith))

  -- one layer more, under lists that are these
  module _ (s : ℕ) (before list : List ℕ) (eb : before ≡ unmasked_list (s - 1)) (el : list ≡ unmasked_list s) (h h' : ℕ → ℕ) where
    next : s + 1 - 1 ≡ s
    next = omega arith

    pub forward_more : WentForward neg w s before list h h' → Holds neg w (mask_after 7 Forward (s - 1) (unmasked_list (s - 1))) (layers 7 neg w (s - 1) f) h →
        Holds neg w (mask_after 7 Forward (s + 1 - 1) (unmasked_list (s + 1 - 1))) (layers 7 neg w (s + 1 - 1) f) h'
    forward_more W H = rw next (rw el at (W.step f (rw eb H)))

    pub inverse_more : (i : ℕ) → WentBack neg w i s before list h h' → Holds neg w (mask_after 7 Inverse (s - 1) (unmasked_list (s - 1))) (inv_stage 7 neg w i (s - 1) f) h →
        Holds neg w (mask_after 7 Inverse (s + 1 - 1) (unmasked_list (s + 1 - 1))) (inv_stage 7 neg w i (s + 1 - 1) f) h'
    inverse_more i W H = rw next (rw el at (W.step f (rw eb H)))
