use Rattle.std.proofs.Common.{pred, ◌-◌, ◌≡◌, arith}
use Rattle.engine.specs.Pairs.{inverse_pair}
use Rattle.algebra.specs.Layers.{inverse_groups, inverse_exponent}
use Rattle.engine.proofs.Carrying.{suits_new}
use Rattle.engine.proofs.Layering.{next_group, went_back_unscaled}
use Rattle.engine.proofs.layer.inverse_butterflies.Goals as goal

pub new-came-requires : goal.new-came-requires
new-came-requires g c = suits_new (c.args.masked.now.layer.number - 1) _ c.args.masked.now.comes

pub new-goes-requires : goal.new-goes-requires
new-goes-requires g c = suits_new c.args.masked.now.layer.number _ c.args.masked.now.goes

pub loop-index-preserved : goal.loop-index-preserved
loop-index-preserved g c =
    let s = c.args.ring.now in
    let at = c.inverse_group_at in
    next_group _ _ (inverse_pair (pred (g.R.Ring.modulus s)) (g.R.Ring.root s)) (inverse_exponent 7 c.args.masked.now.layer.number) _ c.loop-index.index _ _ _ _ _
    at.result.index at.result.len at.result.z _ _ at.ensures.index at.ensures.half at.ensures.factor c.new-came.ensures c.new-goes.ensures
    c.loop-index.invariant c.inverse_group.ensures

pub returns : goal.returns
returns g c =
    let s = c.args.ring.now in
    let masked = c.args.masked.now in
    let end : c.loop-index.index ≡ inverse_groups 7 masked.layer.number = omega arith in
    record {
      all = c.loop-index.invariant.all;
      went =
          went_back_unscaled (g.R.Ring.element s) (g.R.Ring.meaning s) (g.R.Ring.modulus s) (g.R.Ring.root s) (g.met.R.Ring.halfway s)
          masked.before.now masked.list.now c.loop-index.index _ _ masked.layer.number
          masked.layer.first masked.layer.last masked.comes masked.goes end c.loop-index.invariant;
    }
