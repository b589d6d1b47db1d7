use Rattle.std.proofs.Common.{◌+◌, length, sym, ◌∙◌, arith, rules}
use Rattle.std.proofs.lemmas.Result.{err_from_is_err_and}
use Rattle.sheet.specs.Reads.{Reads}
use Rattle.sheet.proofs.Hearing.{same, never_refused}
use Rattle.sheet.proofs.Spelling.{spelled}
use Rattle.sheet.proofs.Within.{within}
use Rattle.sheet.proofs.read.read_field.Goals as goal

pub returns : goal.returns
returns c =
    let sheet = c.args.sheet.now in
    let at = c.args.at in
    let content = c.in_ok-header.header.content.now in
    let next = at + 3 + length content in
    let field = c.field.result in
    let spells = c.field.ensures in
    let headed = c.in_ok-header.ensures.headed in
    let read : Reads sheet at field next = record {
      tag = sym (spells.tag ∙ headed.tag);
      size = sym (spells.size ∙ headed.size);
      after = omega (arith, spells.size);
      inside = headed.inside;
      content = within sheet content (at + 3) (length content) c.in_ok-header.ensures.content field (omega (arith, spells.size)) spells.content;
    } in
    let spelt = spelled sheet (λ i. (c.type_inv.sheet i).fits) at next field read in
    record { field = search rules; written = spelt; heard = same sheet at next field read spelt }

pub returns-in_err-header-clause-heard : goal.returns-in_err-header-clause-heard
returns-in_err-header-clause-heard c =
    let p = err_from_is_err_and c.from_residual.result c.from_residual.ensures.1 in
    rw p.1 (never_refused c.args.sheet.now c.args.at c.in_err-header.field-0.0 c.in_err-header.ensures.headed)
