use Rattle.std.proofs.Common.{◌+◌, ◌*◌, ◌<◌, arith}
use Rattle.engine.proofs.Slots.{rev_small}
use Rattle.registers.proofs.Rows.{filled_none, filled_all, only_filled}
use Rattle.registers.proofs.Reading.{old_read, old_sound}
use Rattle.registers.proofs.Lists.{read_number}
use Rattle.registers.proofs.Slots.{slot_low, slot_high, slot_more, slot_products}
use Rattle.registers.proofs.product.multiply_registers.Goals as goal

pub loop-slot-init : goal.loop-slot-init
loop-slot-init g c = filled_none _ _ _

pub overflow_mul-reversed : goal.overflow_mul-reversed
overflow_mul-reversed g c = omega (arith, rev_small 7 c.loop-slot.slot, c.reversed.ensures)

pub overflow_add-reversed : goal.overflow_add-reversed
overflow_add-reversed g c = omega (arith, rev_small 7 c.loop-slot.slot, c.reversed.ensures)

pub slot_product-low-requires : goal.slot_product-low-requires
slot_product-low-requires g c =
    let j = c.args.join in
    let n = 2 * c.loop-slot.slot in
    let here : n < 256 = omega arith in
    let next : n + 1 < 256 = omega arith in
    let f = c.loop-slot.invariant in
    record {
      left = (
        old_sound _ j.a.number j.d.number n n _ _ _ _ f (omega arith) here c.requires.size j.a.known c.requires.left c.index-words-left.is,
        old_sound _ j.a.number j.d.number n (n + 1) _ _ _ _ f (omega arith) next c.requires.size j.a.known c.requires.left c.index-words-left-in-loop-slot.is,
      );
      right = (
        old_sound _ j.b.number j.d.number n n _ _ _ _ f (omega arith) here c.requires.size j.b.known c.requires.right c.index-words-right.is,
        old_sound _ j.b.number j.d.number n (n + 1) _ _ _ _ f (omega arith) next c.requires.size j.b.known c.requires.right c.index-words-right-in-loop-slot.is,
      );
      factor = c.power-c.ensures.stays;
    }

pub loop-slot-preserved : goal.loop-slot-preserved
loop-slot-preserved g c =
    let j = c.args.join in
    let s = c.args.ring.now in
    let meaning = g.G.Ring.meaning s in
    let ws = c.args.words.now in
    let n = 2 * c.loop-slot.slot in
    let here : n < 256 = omega arith in
    let next : n + 1 < 256 = omega arith in
    let slot : c.loop-slot.slot < 128 = omega arith in
    let f = c.loop-slot.invariant in
    let a0 = read_number meaning ws j.a.number n _ c.requires.size j.a.known here
    (λ e. old_read j.a.number j.d.number n n _ _ _ _ e f (omega arith) here (omega arith) c.index-words-left.is) in
    let a1 = read_number meaning ws j.a.number (n + 1) _ c.requires.size j.a.known next
    (λ e. old_read j.a.number j.d.number n (n + 1) _ _ _ _ e f (omega arith) next (omega arith) c.index-words-left-in-loop-slot.is) in
    let b0 = read_number meaning ws j.b.number n _ c.requires.size j.b.known here
    (λ e. old_read j.b.number j.d.number n n _ _ _ _ e f (omega arith) here (omega arith) c.index-words-right.is) in
    let b1 = read_number meaning ws j.b.number (n + 1) _ c.requires.size j.b.known next
    (λ e. old_read j.b.number j.d.number n (n + 1) _ _ _ _ e f (omega arith) next (omega arith) c.index-words-right-in-loop-slot.is) in
    let small = g.met.G.Ring.below s _ c.power-c.ensures.stays in
    slot_more _ c.loop-slot.slot _ _ _ _ _ (omega arith) slot f
    (record {
      stays = c.slot_product-low.ensures.first;
      means = slot_low _ _ c.loop-slot.slot _ _ _ _ _ _ _ _ _ _ slot small c.reversed.ensures c.power-c.ensures.means a0 a1 b0 b1 c.slot_product-low.ensures.product;
    })
    (record {
      stays = c.slot_product-low.ensures.second;
      means = slot_high _ _ c.loop-slot.slot _ _ _ _ _ _ _ _ _ _ slot small c.reversed.ensures c.power-c.ensures.means a0 a1 b0 b1 c.slot_product-low.ensures.product;
    })

pub returns : goal.returns
returns g c =
    let j = c.args.join in
    let s = c.args.ring.now in
    let f = filled_all _ (2 * c.loop-slot.slot) 256 _ _ _ (omega arith) c.loop-slot.invariant in
    record {
      only = only_filled j.d.number _ _ _ f;
      means =
          slot_products _ (g.met.G.GuardedRing.lawful s) _ _ j.d.number j.a.number j.b.number c.requires.size j.d.known _ (g.met.G.GuardedRing.joint s) f;
    }
