use Rattle.std.proofs.Common.{sym, ◌∙◌}
use Rattle.rings.proofs.Flaws.{high_some, high_none}
use Rattle.rings.proofs.checks.in_range.Goals as goal

pub returns-in-Some-clause-answers : goal.returns-in-Some-clause-answers
returns-in-Some-clause-answers c = rw (high_some 3329 c.args.xs.now c.in-Some.i (sym c.first_high.ensures ∙ c.in-Some.is))

pub returns-in-Some-clause-complains : goal.returns-in-Some-clause-complains
returns-in-Some-clause-complains c = rw (high_some 3329 c.args.xs.now c.in-Some.i (sym c.first_high.ensures ∙ c.in-Some.is))

pub returns-in-None-clause-answers : goal.returns-in-None-clause-answers
returns-in-None-clause-answers c = rw (high_none 3329 c.args.xs.now (sym c.first_high.ensures ∙ c.in-None.is))

pub returns-in-None-clause-complains : goal.returns-in-None-clause-complains
returns-in-None-clause-complains c = rw (high_none 3329 c.args.xs.now (sym c.first_high.ensures ∙ c.in-None.is))
