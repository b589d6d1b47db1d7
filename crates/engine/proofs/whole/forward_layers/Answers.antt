use Rattle.std.proofs.Common.{◌≡◌, ◌-◌, arith}
use Rattle.engine.proofs.Wholes.{forward_start, forward_more, forward_end}
use Rattle.engine.proofs.whole.forward_layers.Goals as goal

pub loop-number-init : goal.loop-number-init
loop-number-init g c = (c.requires.all, forward_start _ _ _)

pub loop-number-preserved : goal.loop-number-preserved
loop-number-preserved g c = (
  c.forward_layer.ensures.all,
  forward_more _ _ _ c.loop-number.number _ _ c.unmasked.ensures.before c.unmasked.ensures.list _ _ (rw c.unmasked.ensures.layer at c.forward_layer.ensures.went) c.loop-number.invariant.1,
)

pub returns : goal.returns
returns g c =
    let end : c.loop-number.number - 1 ≡ 7 = omega arith in
    record { all = c.loop-number.invariant.0; transformed = forward_end _ _ _ _ (c.loop-number.number - 1) end c.loop-number.invariant.1 }
