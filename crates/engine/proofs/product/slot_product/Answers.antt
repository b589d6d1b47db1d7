use Rattle.engine.proofs.Slots.{slot_numbers}
use Rattle.engine.proofs.product.slot_product.Goals as goal

pub returns : goal.returns
returns g c =
    let s = c.args.ring.now in
    record {
      first = c.sum.ensures.stays;
      second = c.sum-2.ensures.stays;
      product =
          slot_numbers (g.R.Ring.modulus s) _ _ _ _ _ _ _ _ _ _ _ _ (g.met.R.Ring.below s c.args.a0 c.requires.left.0)
          c.product-first.ensures.means c.product.ensures.means c.product-round.ensures.means
          c.product-outer.ensures.means c.product-inner.ensures.means c.sum.ensures.means c.sum-2.ensures.means;
    }
