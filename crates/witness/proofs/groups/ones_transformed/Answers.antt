use Prim.Native.Nat.{ℕ}
use mathlib.Core.Path.{◌≡◌, subst}
use native.Mathlib.Omega.{arith}
use Rattle.witness.specs.Groups.{Groups}
use Rattle.witness.proofs.Halving.{groups_none, group_count, group_most, groups_more}
use Rattle.witness.proofs.groups.ones_transformed.Goals as goal

pub loop-layer-init : goal.loop-layer-init
loop-layer-init g c =
    let modulus = c.args.modulus.now in
    groups_none modulus.p.number (g.G.Ring.root modulus.ring.now) 127 (omega arith)

pub halve-requires : goal.halve-requires
halve-requires g c =
    let t = c.loop-layer.layer in
    record {
      size = omega (arith, group_count t (omega arith), group_most t (omega arith));
      small = c.loop-layer.invariant.small;
    }

pub loop-layer-preserved : goal.loop-layer-preserved
loop-layer-preserved g c =
    let modulus = c.args.modulus.now in
    let t = c.loop-layer.layer in
    groups_more modulus.p.number (g.G.Ring.root modulus.ring.now) t _ c.loop-layer.numbers c.halve.new.numbers (omega arith) (omega arith)
    (group_count t (omega arith)) c.loop-layer.invariant c.halve.ensures

pub returns : goal.returns
returns g c =
    let modulus = c.args.modulus.now in
    let end : c.loop-layer.layer ≡ 7 = omega arith in
    subst (λ (t : ℕ). Groups modulus.p.number (g.G.Ring.root modulus.ring.now) t c.loop-layer.numbers) end c.loop-layer.invariant
