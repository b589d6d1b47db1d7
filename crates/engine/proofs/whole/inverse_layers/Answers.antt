use Rattle.std.proofs.Common.{◌≡◌, ◌-◌, arith}
use Rattle.engine.proofs.Wholes.{inverse_start, inverse_more, inverse_end}
use Rattle.engine.proofs.whole.inverse_layers.Goals as goal

pub loop-number-init : goal.loop-number-init
loop-number-init g c = (c.requires.all, λ i v. inverse_start _ _ _ i)

pub loop-number-preserved : goal.loop-number-preserved
loop-number-preserved g c = (
  c.inverse_layer.ensures.all,
  λ i v. inverse_more _ _ _ c.loop-number.number _ _ c.unmasked.ensures.before c.unmasked.ensures.list _ _ i (rw c.unmasked.ensures.layer at (c.inverse_layer.ensures.went i v)) (c.loop-number.invariant.1 i v),
)

pub returns : goal.returns
returns g c =
    let end : c.loop-number.number - 1 ≡ 7 = omega arith in
    record { all = c.loop-number.invariant.0; transformed = λ i v. inverse_end _ _ _ i _ (c.loop-number.number - 1) end (c.loop-number.invariant.1 i v) }
