use Rattle.std.proofs.Common.{sym, ap, ◌∙◌}
use Rattle.records.specs.Rows.{rows}
use Rattle.records.proofs.Eights.{working, none_hinders_work, none_hinders, first_hinders}
use Rattle.records.proofs.checks.unhindered.Goals as goal

pub returns-then-is_in_work : goal.returns-then-is_in_work
returns-then-is_in_work c =
    rw (none_hinders_work (rows c.args.table.now.records) c.args.register.number
    (ap working (sym c.record_of.ensures) ∙ sym c.is_in_work.ensures ∙ c.if-is_in_work.true))

pub returns-in-Some : goal.returns-in-Some
returns-in-Some c =
    rw (first_hinders c.args.table.now.records c.args.register.number c.in-Some.k c.args.table.now.eight
    (ap working (sym c.record_of.ensures) ∙ sym c.is_in_work.ensures ∙ c.if-is_in_work.false) (sym c.first_in_work.ensures ∙ c.in-Some.is))

pub returns-in-None : goal.returns-in-None
returns-in-None c =
    rw (none_hinders c.args.table.now.records c.args.register.number c.args.table.now.eight (sym c.first_in_work.ensures ∙ c.in-None.is))
