use Rattle.std.proofs.Common.{Some, None, Ok, refl, subst, inl}
use Rattle.sheet.specs.Tiles.{Next}
use Rattle.sheet.proofs.Opening.{first_flaw, not_empty}
use Rattle.sheet.proofs.Steps.{at_start, a_field_on, lies, whole, stopped}
use Rattle.sheet.proofs.Unique.{one_tiling}
use Rattle.sheet.proofs.tiling.survey.Goals as goal

pub returns-in-Err-clause-tiled : goal.returns-in-Err-clause-tiled
returns-in-Err-clause-tiled c =
    let sheet = c.args.sheet.now in
    stopped sheet 0 0 c.in-Err.refusal (at_start sheet) (inl refl) (first_flaw sheet c.in-Err.refusal c.in-Err.ensures)

pub returns-in-Err-clause-covers : goal.returns-in-Err-clause-covers
returns-in-Err-clause-covers c = lies c.args.sheet.now 0

pub returns-in-Err-clause-one : goal.returns-in-Err-clause-one
returns-in-Err-clause-one c = one_tiling c.args.sheet.now

pub loop-step-init : goal.loop-step-init
loop-step-init c =
    let h = c.in-Ok.ensures in
    (h.1, rw h.2 (at_start c.args.sheet.now), not_empty c.args.sheet.now h.0)

pub loop-step-preserved : goal.loop-step-preserved
loop-step-preserved c =
    let sheet = c.args.sheet.now in
    let fields = c.loop-step.reader in
    let next = c.next.new.self.at in
    let read = c.in-Ok-step.field-0 in
    let step = subst (λ x. Next x fields.at (Some (Ok read)) next) c.loop-step.invariant.0 (rw c.in-Ok-step.is at c.in-Some.ensures.step) in
    (rw c.next.ensures.sheet c.loop-step.invariant.0, a_field_on sheet (λ i. (c.type_inv.sheet i).fits) c.loop-step.fields fields.at next read.field c.loop-step.invariant.1 step.1 step.3, c.loop-step.invariant.2)

pub returns-in-Err-step-clause-covers : goal.returns-in-Err-step-clause-covers
returns-in-Err-step-clause-covers c = lies c.args.sheet.now c.loop-step.fields

pub returns-in-Err-step-clause-one : goal.returns-in-Err-step-clause-one
returns-in-Err-step-clause-one c = one_tiling c.args.sheet.now

pub returns-clause-covers : goal.returns-clause-covers
returns-clause-covers c =
    let step = subst (λ x. Next x c.loop-step.reader.at None c.next.new.self.at) c.loop-step.invariant.0 c.in_default.ensures.step in
    whole c.args.sheet.now c.loop-step.fields c.loop-step.reader.at c.loop-step.invariant.1 step.0

pub returns-clause-one : goal.returns-clause-one
returns-clause-one c = one_tiling c.args.sheet.now
