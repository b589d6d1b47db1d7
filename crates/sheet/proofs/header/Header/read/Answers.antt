use Rattle.std.proofs.Common.{Some, ap, ◌∙◌, arith, rules}
use Rattle.sheet.specs.Flaws.{fits}
use Rattle.sheet.proofs.Flaws.{long, short, past, unknown, misplaced, misfit, fitting}
use Rattle.sheet.proofs.header.Header.read.Goals as goal

pub returns-then-sheet-gt-SHEET-clause-headed : goal.returns-then-sheet-gt-SHEET-clause-headed
returns-then-sheet-gt-SHEET-clause-headed c = long c.args.sheet.now c.args.at (omega arith)

pub returns-then-from-sheet-clause-headed : goal.returns-then-from-sheet-clause-headed
returns-then-from-sheet-clause-headed c = short c.args.sheet.now c.args.at (omega arith) (omega arith)

pub returns-then-from-n-clause-headed : goal.returns-then-from-n-clause-headed
returns-then-from-n-clause-headed c = past c.args.sheet.now c.args.at (omega arith) (omega arith) (omega arith)

pub returns-in_default-clause-headed : goal.returns-in_default-clause-headed
returns-in_default-clause-headed c = unknown c.args.sheet.now c.args.at (omega arith) (omega arith) c.in_default.ensures.kind

pub returns-then-not-may_stand-clause-headed : goal.returns-then-not-may_stand-clause-headed
returns-then-not-may_stand-clause-headed c =
    misplaced c.args.sheet.now c.args.at (omega arith) (omega arith) c.in-Some.kind c.in-Some.ensures.kind c.if-not-may_stand.ensures

pub returns-then-not-takes-clause-headed : goal.returns-then-not-takes-clause-headed
returns-then-not-takes-clause-headed c =
    let fit = c.if-not-takes.ensures ∙ ap (fits (Some c.in-Some.kind)) c.two-n.ensures in
    misfit c.args.sheet.now c.args.at (omega arith) (omega arith) c.in-Some.kind c.in-Some.ensures.kind c.if-not-may_stand.ensures fit

pub returns-clause-headed : goal.returns-clause-headed
returns-clause-headed c =
    let fit = c.if-not-takes.ensures ∙ ap (fits (Some c.in-Some.kind)) c.two-n.ensures in
    record {
      sound = fitting c.args.sheet.now c.args.at (omega arith) (omega arith) c.in-Some.kind c.in-Some.ensures.kind c.if-not-may_stand.ensures fit;
      tag = c.in-Some.ensures.marked;
      size = search rules;
      inside = search rules;
      short = omega arith;
      enough = search rules;
      limit = search rules;
    }
