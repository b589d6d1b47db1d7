use Rattle.std.proofs.Common.{pred, ◌-◌}
use Rattle.algebra.specs.declared.Direction.TheVariants.{Forward}
use Rattle.algebra.specs.Layers.{layers}
use Rattle.algebra.specs.Masks.{Holds, mask_after}
use Rattle.engine.specs.Rows.{Elements, held}
use Rattle.engine.specs.Steps.{unmasked_list}
use Rattle.engine.proofs.whole.forward_layers.Given as goal

abbrev pub invariant-loop-number : goal.invariant-loop-number
invariant-loop-number g l =
    let r = g.R.Ring in
    let s = l.ring in
    Elements (r.element s) l.words
    × Holds (pred (r.modulus s)) (r.root s) (mask_after 7 Forward (l.number - 1) (unmasked_list (l.number - 1)))
    (layers 7 (pred (r.modulus s)) (r.root s) (l.number - 1) (held (r.meaning s) l.initial.words)) (held (r.meaning s) l.words)
