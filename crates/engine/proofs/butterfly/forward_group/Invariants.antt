use Rattle.std.proofs.Common.{pred, ◌*◌}
use Rattle.engine.specs.Rows.{GroupWritten}
use Rattle.engine.specs.Pairs.{forward_pair}
use Rattle.engine.proofs.butterfly.forward_group.Given as goal

abbrev pub invariant-loop-offset : goal.invariant-loop-offset
invariant-loop-offset g l =
    let r = g.R.Ring in
    let s = l.ring in
    GroupWritten (r.element s) (r.meaning s) (l.group.index * (2 * l.group.len)) l.group.len l.offset
    (forward_pair (pred (r.modulus s)) (r.root s) l.group.z l.group.len l.group.index l.before.bytes.now l.list.bytes.now) l.initial.words l.words
