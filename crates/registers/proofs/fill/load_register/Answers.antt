use Rattle.std.proofs.Common.{arith}
use Rattle.rings.proofs.Flaws.{low_at}
use Rattle.registers.proofs.Rows.{filled_none, filled_more, filled_all, only_filled}
use Rattle.registers.proofs.Lifting.{holding}
use Rattle.registers.proofs.fill.load_register.Goals as goal

pub loop-k-init : goal.loop-k-init
loop-k-init g c = filled_none _ _ _

pub lift-requires : goal.lift-requires
lift-requires g c = record {
  coefficient = low_at 3329 _ c.requires.range c.loop-k.k (omega arith);
  check = low_at _ _ c.requires.checks c.loop-k.k (omega arith);
  number = low_at _ _ c.requires.digits c.loop-k.k (omega arith);
}

pub loop-k-preserved : goal.loop-k-preserved
loop-k-preserved g c = filled_more _ c.loop-k.k _ _ _ _ (omega arith) c.loop-k.invariant c.lift.ensures

pub returns : goal.returns
returns g c =
    let f = filled_all _ c.loop-k.k 256 _ _ _ (omega arith) c.loop-k.invariant in
    record {
      only = only_filled c.args.r.number _ _ _ f;
      holds = holding _ _ _ c.args.r.number _ c.requires.room c.args.r.known c.requires.sizes.1.1 _ _ c.requires.sizes.0 c.requires.sizes.1.0 f;
    }
