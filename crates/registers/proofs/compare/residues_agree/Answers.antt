use Rattle.std.proofs.Common.{refl, arith}
use Rattle.registers.proofs.Found.{differ_found}
use Rattle.registers.proofs.compare.residues_agree.Goals as goal

pub first_fault-requires : goal.first_fault-requires
first_fault-requires g c = rw c.row.ensures.words c.requires.tested

pub returns-in-Some : goal.returns-in-Some
returns-in-Some g c =
    rw (
      ← c.row.ensures.words,
      differ_found (g.G.GuardedRing.check c.args.ring.now) (g.G.Ring.meaning c.args.ring.now) c.row.result.now c.args.numbers.now (omega arith),
      ← c.first_fault.ensures.found,
      c.in-Some.is,
    ) refl

pub returns-in-None : goal.returns-in-None
returns-in-None g c =
    rw (
      ← c.row.ensures.words,
      differ_found (g.G.GuardedRing.check c.args.ring.now) (g.G.Ring.meaning c.args.ring.now) c.row.result.now c.args.numbers.now (omega arith),
      ← c.first_fault.ensures.found,
      c.in-None.is,
    ) refl
