use Rattle.std.proofs.Common.{pred}
use Rattle.engine.specs.Rows.{held}
use Rattle.engine.specs.Slots.{SlotsWritten}
use Rattle.engine.proofs.product.base_products.Given as goal

abbrev pub invariant-loop-slot : goal.invariant-loop-slot
invariant-loop-slot g l =
    let r = g.R.Ring in
    let s = l.ring in
    SlotsWritten (r.element s) (r.meaning s) (pred (r.modulus s)) (r.root s) (held (r.meaning s) l.left) (held (r.meaning s) l.right) l.slot l.initial.out l.out
