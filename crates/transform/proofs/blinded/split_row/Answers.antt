use Rattle.std.proofs.Common.{ℕ, ◌%◌, sym, ap, ◌∙◌, arith, get_or-set_other, get_or-set_same, below_more}
use Rattle.engine.proofs.Rows.{held_at}
use Rattle.transform.proofs.blinded.split_row.Goals as goal

pub loop-i-preserved : goal.loop-i-preserved
loop-i-preserved g c =
    let i = c.loop-i.i in
    let out = c.loop-i.out in
    below_more _ _
    (λ k h. get_or-set_other out i k _ 0 (omega arith) ∙ c.loop-i.invariant k h)
    (get_or-set_same out i _ 0 (omega arith) ∙ c.split.ensures.coefficient
    ∙ ap (λ (x : ℕ). x % 3329) (sym (held_at _ c.args.words.now i _ (omega arith) c.index-words-i.is)))
