use Rattle.std.proofs.Common.{pred, ◌-◌, ◌≡◌, arith}
use Rattle.engine.specs.Pairs.{forward_pair}
use Rattle.algebra.specs.Layers.{forward_groups, forward_exponent}
use Rattle.engine.proofs.Carrying.{suits_new}
use Rattle.engine.proofs.Layering.{next_group, went_forward}
use Rattle.engine.proofs.layer.forward_layer.Goals as goal

pub new-came-requires : goal.new-came-requires
new-came-requires g c = suits_new (c.args.masked.now.layer.number - 1) _ c.args.masked.now.comes

pub new-goes-requires : goal.new-goes-requires
new-goes-requires g c = suits_new c.args.masked.now.layer.number _ c.args.masked.now.goes

pub loop-index-preserved : goal.loop-index-preserved
loop-index-preserved g c =
    let s = c.args.ring.now in
    let at = c.forward_group_at in
    next_group _ _ (forward_pair (pred (g.R.Ring.modulus s)) (g.R.Ring.root s)) (forward_exponent 7 c.args.masked.now.layer.number) _ c.loop-index.index _ _ _ _ _
    at.result.index at.result.len at.result.z _ _ at.ensures.index at.ensures.half at.ensures.factor c.new-came.ensures c.new-goes.ensures
    c.loop-index.invariant c.forward_group.ensures

pub returns : goal.returns
returns g c =
    let s = c.args.ring.now in
    let masked = c.args.masked.now in
    let end : c.loop-index.index ≡ forward_groups masked.layer.number = omega arith in
    record {
      all = c.loop-index.invariant.all;
      went =
          went_forward (g.R.Ring.element s) (g.R.Ring.meaning s) (g.R.Ring.modulus s) (g.R.Ring.root s) (g.met.R.Ring.halfway s)
          masked.before.now masked.list.now c.loop-index.index _ _ masked.layer.number
          masked.layer.first masked.layer.last masked.comes masked.goes end c.loop-index.invariant;
    }
