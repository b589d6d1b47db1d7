use Rattle.std.proofs.Common.{refl}
use Rattle.registers.proofs.Found.{flaw_found}
use Rattle.registers.proofs.compare.test_register.Goals as goal

pub returns-in-Some : goal.returns-in-Some
returns-in-Some g c =
    rw (flaw_found (g.G.Ring.element c.args.ring.now), ← c.row.ensures.words, ← c.first_stray.ensures.found, c.in-Some.is) refl

pub returns-in-None : goal.returns-in-None
returns-in-None g c =
    rw (flaw_found (g.G.Ring.element c.args.ring.now), ← c.row.ensures.words, ← c.first_stray.ensures.found, c.in-None.is) refl
