use Prim.Native.Nat.{◌-◌}
use native.Mathlib.Omega.{arith}
use Rattle.witness.proofs.Halving.{halved_none, halved_more}
use Rattle.witness.proofs.groups.halve.Goals as goal

pub loop-g-init : goal.loop-g-init
loop-g-init g c = halved_none _ _ _ _ c.requires.small

pub loop-g-preserved : goal.loop-g-preserved
loop-g-preserved g c =
    let modulus = c.args.modulus.now in
    halved_more modulus.p.number (g.G.Ring.root modulus.ring.now) c.args.count c.loop-g.g (c.loop-g.g - 1) c.args.numbers.now c.loop-g.numbers
    c.loop-g.invariant (omega arith) (omega arith) (omega arith)
    c.reversed.result c.root_power.result c.product-turned.result c.sum.result c.difference.result
    c.reversed.ensures c.root_power.ensures c.product-turned.ensures c.sum.ensures c.difference.ensures
