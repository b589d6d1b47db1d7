use Rattle.std.proofs.Common.{arith}
use Rattle.engine.proofs.Scaling.{multiplied_more, scaled_by}
use Rattle.engine.proofs.layer.scale.Goals as goal

pub loop-word-preserved : goal.loop-word-preserved
loop-word-preserved g c =
    let s = c.args.ring.now in
    multiplied_more (g.R.Ring.element s) (g.R.Ring.meaning s) (g.R.Ring.modulus s) (g.R.Ring.meaning s c.inverse-inverse.result) c.loop-word.word-index c.args.words.now c.loop-word.words _ _
    (omega arith) (g.met.R.Ring.below s _ c.inverse-inverse.ensures.stays) c.loop-word.invariant c.word-item.is c.product.ensures.stays (rw (← c.word-item.is) at c.product.ensures.means)

pub returns : goal.returns
returns g c =
    let s = c.args.ring.now in
    record {
      all = c.loop-word.invariant.all;
      scaled =
          scaled_by (g.R.Ring.element s) (g.R.Ring.meaning s) (g.R.Ring.modulus s) (g.R.Ring.meaning s c.inverse-inverse.result) c.loop-word.word-index _ _
          (g.met.R.Ring.below s _ c.inverse-inverse.ensures.stays) c.inverse-inverse.ensures.means (omega arith) c.loop-word.invariant;
    }

pub product-requires-clause-right : goal.product-requires-clause-right
product-requires-clause-right g c = c.loop-word.invariant.all.at c.loop-word.word-index _ (omega arith)
