use Rattle.std.proofs.Common.{◌≤◌, ◌^◌, ◌-◌, arith}
use Rattle.engine.proofs.Layering.{few, inverse_fits, inverse_exponent_by}
use Rattle.engine.proofs.masked.Layer.inverse_group_at.Goals as goal

pub reversed-requires : goal.reversed-requires
reversed-requires c =
    let groups : 2 ^ (7 - c.args.self.number) ≤ 64 = few (7 - c.args.self.number) (omega arith) in
    omega (arith, c.inverse_count-count.ensures)

pub returns-clause-factor : goal.returns-clause-factor
returns-clause-factor c = inverse_exponent_by c.args.self.number _ c.args.index _ c.args.self.last c.inverse_count-count.ensures c.reversed.ensures

pub invariant_of-result : goal.invariant_of-result
invariant_of-result c = record { inside = rw c.inverse_half.ensures (inverse_fits c.args.self.number c.args.index c.args.self.first c.args.self.last c.requires) }
