use Rattle.std.proofs.Common.{rules, tests}
use Rattle.std.proofs.lemmas.Iterator.{YieldsList-from_slice, YieldsList-from_zip}
use Rattle.std.proofs.lemmas.Iterator.Adapters.{serves_from_places}
use Rattle.std.proofs.lemmas.Iterator.Search.{position_from_yields_List}
use Rattle.registers.proofs.Reading.{pair_sound}
use Rattle.registers.proofs.compare.first_fault.Goals as goal

pub position-requires-clause-callable : goal.position-requires-clause-callable
position-requires-clause-callable g c =
    serves_from_places (YieldsList-from_zip (YieldsList-from_slice c.args.row.now cc) (YieldsList-from_slice c.args.numbers.now cc)) (λ x q r. search rules)
    (λ x k h e _ _ _ _ _ _ _ _. pair_sound (g.G.Ring.element c.args.ring.now) c.args.row.now c.args.numbers.now k (x.0.now, x.1.now) c.requires h e)

pub returns-clause-found : goal.returns-clause-found
returns-clause-found g c =
    position_from_yields_List _ c.position.new.self _ _ c.position.ensures.ran
    (YieldsList-from_zip (YieldsList-from_slice c.args.row.now cc) (YieldsList-from_slice c.args.numbers.now cc)) (λ x b q k. search (rules, tests))
