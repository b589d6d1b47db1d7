use Rattle.witness.specs.Groups.{Halved}
use Rattle.witness.proofs.groups.halve.Given as goal

abbrev pub invariant-loop-g : goal.invariant-loop-g
invariant-loop-g g l = Halved l.modulus.p.number (g.G.Ring.root l.modulus.ring.now) l.count l.g l.initial.numbers l.numbers
