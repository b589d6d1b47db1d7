use Rattle.std.proofs.Common.{ℕ, pred, ◌-◌}
use Rattle.algebra.specs.declared.Direction.TheVariants.{Inverse}
use Rattle.algebra.specs.Layers.{inv_stage}
use Rattle.algebra.specs.Masks.{Holds, mask_after}
use Rattle.engine.specs.Rows.{Elements, held}
use Rattle.engine.specs.Steps.{InverseOf128, unmasked_list}
use Rattle.engine.proofs.whole.inverse_layers.Given as goal

abbrev pub invariant-loop-number : goal.invariant-loop-number
invariant-loop-number g l =
    let r = g.R.Ring in
    let s = l.ring in
    Elements (r.element s) l.words
    × ((i : ℕ) → InverseOf128 (pred (r.modulus s)) i →
    Holds (pred (r.modulus s)) (r.root s) (mask_after 7 Inverse (l.number - 1) (unmasked_list (l.number - 1)))
    (inv_stage 7 (pred (r.modulus s)) (r.root s) i (l.number - 1) (held (r.meaning s) l.initial.words)) (held (r.meaning s) l.words))
