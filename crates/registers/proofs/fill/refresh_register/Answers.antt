use Rattle.std.proofs.Common.{mod-lt, arith, lit<}
use Rattle.rings.proofs.Flaws.{low_at}
use Rattle.registers.proofs.Rows.{filled_none, filled_more, filled_all, only_filled}
use Rattle.registers.proofs.Reading.{old_read, old_sound}
use Rattle.registers.proofs.Lifting.{renumber, renumbered_means, renumbered_numbers}
use Rattle.registers.proofs.fill.refresh_register.Goals as goal

pub loop-k-init : goal.loop-k-init
loop-k-init g c = filled_none _ _ _

pub split-s-requires : goal.split-s-requires
split-s-requires g c =
    old_sound _ c.args.r.number c.args.r.number c.loop-k.k c.loop-k.k _ _ _ _ c.loop-k.invariant (omega arith) c.loop-k-test.true
    c.requires.room c.args.r.known c.requires.tested c.index-words-base.is

pub lift-requires : goal.lift-requires
lift-requires g c =
    let law = g.met.G.GuardedRing.lawful c.args.ring.now in
    record {
      coefficient = rw c.split-s.ensures.coefficient (mod-lt _ (lit< tt));
      check = rw c.split-s.ensures.check (mod-lt _ (omega (arith, law.above)));
      number = low_at _ _ c.requires.digits c.loop-k.k (omega arith);
    }

pub loop-k-preserved : goal.loop-k-preserved
loop-k-preserved g c =
    filled_more _ c.loop-k.k _ _ _ _ (omega arith) c.loop-k.invariant
    (renumber _ c.args.words.now c.args.r.number c.loop-k.k c.args.bytes.now c.index-words-base.result c.lift.result _ _
    (λ d. old_read c.args.r.number c.args.r.number c.loop-k.k c.loop-k.k _ _ _ _ d c.loop-k.invariant (omega arith) c.loop-k-test.true (omega arith) c.index-words-base.is)
    c.split-s.ensures.coefficient c.split-s.ensures.check c.lift.ensures)

pub returns : goal.returns
returns g c =
    let law = g.met.G.GuardedRing.lawful c.args.ring.now in
    let f = filled_all _ c.loop-k.k 256 _ _ _ (omega arith) c.loop-k.invariant in
    record {
      only = only_filled c.args.r.number _ _ _ f;
      means = renumbered_means _ _ _ c.args.r.number _ c.requires.room c.args.r.known c.requires.size law c.requires.tested f;
      numbers = renumbered_numbers _ _ _ c.args.r.number _ c.requires.room c.args.r.known c.requires.size law c.requires.tested f;
    }
