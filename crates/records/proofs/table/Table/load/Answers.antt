use Rattle.std.proofs.Common.{ap, ◌∙◌, arith}
use Rattle.std.proofs.lemmas.List.{length-set}
use Rattle.histories.specs.declared.register.Register.{Register}
use Rattle.histories.specs.Forms.{in_work}
use Rattle.records.proofs.Changes.{idle_kept, loaded_idle}
use Rattle.histories.specs.Kinds.{kind_of}
use Rattle.records.proofs.table.Table.load.Goals as goal

pub invariant_of-self-clause-kept : goal.invariant_of-self-clause-kept
invariant_of-self-clause-kept c =
    let s = c.args.self.now in
    let working = λ (x : Register). in_work x.form in
    idle_kept s.records c.args.register.number _ _ (omega arith) s.kept (ap working c.loaded.ensures ∙ loaded_idle (kind_of c.args.kind))

pub invariant_of-self-clause-eight : goal.invariant_of-self-clause-eight
invariant_of-self-clause-eight c = length-set c.args.self.now.records c.args.register.number _ ∙ c.args.self.now.eight
