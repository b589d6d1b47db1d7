use Rattle.std.proofs.Common.{ap, ◌∙◌, arith}
use Rattle.std.proofs.lemmas.List.{length-set}
use Rattle.histories.specs.declared.register.Register.{Register}
use Rattle.histories.specs.Forms.{in_work}
use Rattle.records.specs.Rows.{rows}
use Rattle.records.proofs.Changes.{changed, idle_kept, whole_idle}
use Rattle.records.proofs.table.Table.join.Goals as goal

-- the result has the form of its first operand
pub invariant_of-self-clause-kept : goal.invariant_of-self-clause-kept
invariant_of-self-clause-kept c =
    let s = c.args.self.now in
    let working = λ (x : Register). in_work x.form in
    idle_kept s.records c.args.join.d.number c.result.result _ (omega arith) s.kept
    (ap working c.result.ensures ∙ ap working c.record_of-x.ensures ∙ whole_idle (rows s.records c.args.join.a.number).form c.requires.entire)

pub invariant_of-self-clause-eight : goal.invariant_of-self-clause-eight
invariant_of-self-clause-eight c = length-set c.args.self.now.records c.args.join.d.number _ ∙ c.args.self.now.eight

pub returns : goal.returns
returns c =
    changed c.args.self.now.records c.args.join.d.number _ _ _ (omega arith) (c.result.ensures ∙ rw (c.record_of-x.ensures, c.record_of-y.ensures))
