use Rattle.std.proofs.Common.{◌≡◌, length, ap, ◌∙◌, arith}
use Rattle.std.proofs.lemmas.List.{length-set}
use Rattle.algebra.specs.Masks.{is_list_length}
use Rattle.records.specs.Rows.{rows}
use Rattle.records.specs.Tables.{with_form}
use Rattle.records.proofs.Changes.{layered, layer_kept}
use Rattle.records.proofs.table.Table.advance.Goals.{After-unwrap-self}
use Rattle.records.proofs.table.Table.advance.Goals as goal

stored : (c : After-unwrap-self) → c.unwrap-self.result.items ≡ c.args.masks.now
stored c = (rw c.unwrap-self.ensures at c.try_from.ensures).0

pub invariant_of-self-clause-kept : goal.invariant_of-self-clause-kept
invariant_of-self-clause-kept c =
    let s = c.args.self.now in
    layer_kept s.records c.args.register.number (with_form c.args.next (rows s.records c.args.register.number)) _ (omega arith)
    s.kept.proper c.requires.alone c.requires.fine (λ w. ap (λ xs. is_list_length (length xs)) (stored c) ∙ c.requires.suited w)

pub invariant_of-self-clause-eight : goal.invariant_of-self-clause-eight
invariant_of-self-clause-eight c = length-set c.args.self.now.records c.args.register.number _ ∙ c.args.self.now.eight

pub returns : goal.returns
returns c = layered c.args.self.now.records c.args.register.number c.args.next _ c.args.masks.now (omega arith) (stored (goal.at.returns c).After-unwrap-self)
