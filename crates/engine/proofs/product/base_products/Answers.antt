use Rattle.std.proofs.Common.{◌+◌, ◌*◌, sym, arith}
use Rattle.engine.proofs.Rows.{held_at}
use Rattle.engine.proofs.Slots.{slots_more, slots_elements, slots_all, rev_small}
use Rattle.engine.proofs.product.base_products.Goals as goal

pub overflow_mul-reversed : goal.overflow_mul-reversed
overflow_mul-reversed g c = omega (arith, rev_small 7 c.loop-slot.slot, c.reversed.ensures)

pub overflow_add-reversed : goal.overflow_add-reversed
overflow_add-reversed g c = omega (arith, rev_small 7 c.loop-slot.slot, c.reversed.ensures)

pub loop-slot-preserved : goal.loop-slot-preserved
loop-slot-preserved g c =
    let s = c.args.ring.now in
    let meaning = g.R.Ring.meaning s in
    let i = 2 * c.loop-slot.slot in
    slots_more (g.R.Ring.element s) meaning (g.R.Ring.modulus s) (g.R.Ring.root s) _ _ c.loop-slot.slot c.reversed.result c.power-c.result _ _ _ _ _ _ _ _
    (omega arith) (g.met.R.Ring.below s _ c.power-c.ensures.stays) c.reversed.ensures c.power-c.ensures.means
    (sym (held_at meaning c.args.left.now i _ (omega arith) c.index-left-i.is))
    (sym (held_at meaning c.args.left.now (i + 1) _ (omega arith) c.index-left-i-in-loop-slot.is))
    (sym (held_at meaning c.args.right.now i _ (omega arith) c.index-right-i.is))
    (sym (held_at meaning c.args.right.now (i + 1) _ (omega arith) c.index-right-i-in-loop-slot.is))
    c.loop-slot.invariant c.slot_product-low.ensures.first c.slot_product-low.ensures.second c.slot_product-low.ensures.product

pub returns : goal.returns
returns g c =
    let s = c.args.ring.now in
    record {
      all = slots_elements (g.R.Ring.element s) (g.R.Ring.meaning s) (g.R.Ring.modulus s) (g.R.Ring.root s) _ _ c.loop-slot.slot _ _ c.requires.out (omega arith) c.loop-slot.invariant;
      products = slots_all (g.R.Ring.element s) (g.R.Ring.meaning s) (g.R.Ring.modulus s) (g.R.Ring.root s) _ _ c.loop-slot.slot _ _ (omega arith) c.loop-slot.invariant;
    }
