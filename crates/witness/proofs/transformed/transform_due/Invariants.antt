use Rattle.witness.specs.Groups.{SlotsDue}
use Rattle.witness.proofs.transformed.transform_due.Given as goal

abbrev pub invariant-loop-slot : goal.invariant-loop-slot
invariant-loop-slot g l = SlotsDue l.modulus.p.number (g.G.Ring.root l.modulus.ring.now) l.register.a l.register.b l.slot l.one-items l.numbers
