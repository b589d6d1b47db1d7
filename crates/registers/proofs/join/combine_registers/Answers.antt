use Rattle.std.proofs.Common.{sym, arith}
use Rattle.registers.proofs.Rows.{filled_none, filled_more, filled_all, only_filled}
use Rattle.registers.proofs.Reading.{old_read}
use Rattle.registers.proofs.join.combine_registers.Goals as goal

pub loop-k-init : goal.loop-k-init
loop-k-init g c = filled_none _ _ _

pub combine-requires : goal.combine-requires
combine-requires g c =
    let j = c.args.join in
    let k = c.loop-k.k in
    let e = c.index-words-left.result in
    rw (
      old_read j.a.number j.d.number k k _ _ _ _ e c.loop-k.invariant (omega arith) (omega arith) (omega arith) c.index-words-left.is,
      old_read j.b.number j.d.number k k _ _ _ _ e c.loop-k.invariant (omega arith) (omega arith) (omega arith) c.index-words-right.is,
    ) (c.requires.callable k e (omega arith))

pub loop-k-preserved : goal.loop-k-preserved
loop-k-preserved g c =
    let j = c.args.join in
    let k = c.loop-k.k in
    filled_more _ k _ _ _ _ (omega arith) c.loop-k.invariant (λ e. rw (
      sym (old_read j.a.number j.d.number k k _ _ _ _ e c.loop-k.invariant (omega arith) (omega arith) (omega arith) c.index-words-left.is),
      sym (old_read j.b.number j.d.number k k _ _ _ _ e c.loop-k.invariant (omega arith) (omega arith) (omega arith) c.index-words-right.is),
    ) c.combine.ensures)

pub returns : goal.returns
returns g c =
    let f = filled_all _ c.loop-k.k 256 _ _ _ (omega arith) c.loop-k.invariant in
    record { only = only_filled c.args.join.d.number _ _ _ f; made = λ k e h. f.within k e h e }
