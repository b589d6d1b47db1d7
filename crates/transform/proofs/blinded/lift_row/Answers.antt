use Rattle.std.proofs.Common.{ℕ, get_or, arith}
use Rattle.rings.proofs.Flaws.{low_at}
use Rattle.guarded.specs.Model.{guarded, Lifted}
use Rattle.transform.proofs.GuardedRows.{written_more}
use Rattle.transform.proofs.blinded.lift_row.Goals as goal

pub lift-requires : goal.lift-requires
lift-requires g c =
    let law = g.met.G.GuardedRing.lawful c.args.ring.now in
    record {
      coefficient = low_at 3329 c.args.f.now c.requires.range c.loop-i.i (omega arith);
      check = omega (arith, law.above);
      number = omega (arith, law.least);
    }

pub loop-i-preserved : goal.loop-i-preserved
loop-i-preserved g c =
    let r = g.G.Ring in
    let h = g.G.GuardedRing in
    let model = guarded h.check h.redundancy r.root r.element r.meaning h.number c.args.ring.now in
    written_more (λ (k : ℕ) v. Lifted model (get_or c.args.f.now k 0) 0 0 v) c.loop-i.i c.loop-i.words c.lift.result (omega arith) c.loop-i.invariant c.lift.ensures
