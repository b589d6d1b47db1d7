use Rattle.std.proofs.Common.{◌≤◌, ◌^◌, ◌-◌, arith}
use Rattle.engine.proofs.Layering.{few, forward_fits, forward_exponent_by}
use Rattle.engine.proofs.masked.Layer.forward_group_at.Goals as goal

pub reversed-requires : goal.reversed-requires
reversed-requires c =
    let groups : 2 ^ (c.args.self.number - 1) ≤ 64 = few (c.args.self.number - 1) (omega arith) in
    omega (arith, c.forward_count-count.ensures)

pub returns-clause-factor : goal.returns-clause-factor
returns-clause-factor c = forward_exponent_by c.args.self.number _ c.args.index _ c.forward_count-count.ensures c.reversed.ensures

pub invariant_of-result : goal.invariant_of-result
invariant_of-result c = record { inside = rw c.forward_half.ensures (forward_fits c.args.self.number c.args.index c.args.self.first c.args.self.last c.requires) }
