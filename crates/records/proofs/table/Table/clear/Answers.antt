use Rattle.std.proofs.Common.{refl, ◌∙◌, arith}
use Rattle.std.proofs.lemmas.List.{length-set}
use Rattle.records.proofs.Changes.{idle_kept}
use Rattle.records.proofs.table.Table.clear.Goals as goal

pub invariant_of-self-clause-kept : goal.invariant_of-self-clause-kept
invariant_of-self-clause-kept c =
    let s = c.args.self.now in idle_kept s.records c.args.register.number _ _ (omega arith) s.kept refl

pub invariant_of-self-clause-eight : goal.invariant_of-self-clause-eight
invariant_of-self-clause-eight c = length-set c.args.self.now.records c.args.register.number _ ∙ c.args.self.now.eight
