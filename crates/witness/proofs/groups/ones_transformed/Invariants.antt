use Rattle.witness.specs.Groups.{Groups}
use Rattle.witness.proofs.groups.ones_transformed.Given as goal

abbrev pub invariant-loop-layer : goal.invariant-loop-layer
invariant-loop-layer g l = Groups l.modulus.p.number (g.G.Ring.root l.modulus.ring.now) l.layer l.numbers
