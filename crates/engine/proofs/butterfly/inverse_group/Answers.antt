use Rattle.std.proofs.Common.{refl, arith, rules}
use Rattle.engine.proofs.Numbers.{inverse_under}
use Rattle.engine.proofs.Rows.{pair_as, group_more}
use Rattle.engine.proofs.butterfly.inverse_group.Goals as goal

pub loop-offset-preserved : goal.loop-offset-preserved
loop-offset-preserved g c =
    group_more _ _ _ c.args.group.len c.loop-offset.offset _ _ _ _ (omega arith) c.loop-offset.invariant
    (pair_as _ _ _ _ _ _ _ _ (λ a b a' b'. inverse_under _ _ _ _ _ _ _ _ _ _ a b a' b' refl (search rules) (search rules) (search rules)) (rw c.base-base.ensures at c.inverse_butterfly.ensures))
