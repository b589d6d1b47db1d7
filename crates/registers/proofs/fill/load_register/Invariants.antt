use Rattle.std.proofs.Common.{◌*◌}
use Rattle.guarded.specs.Model.{guarded}
use Rattle.registers.proofs.Rows.{Filled}
use Rattle.registers.proofs.Lifting.{Placed}
use Rattle.registers.proofs.fill.load_register.Given as goal

abbrev pub invariant-loop-k : goal.invariant-loop-k
invariant-loop-k g l =
    let r = g.G.Ring in
    let h = g.G.GuardedRing in
    Filled (256 * l.fn.r.number) l.k (Placed (guarded h.check h.redundancy r.root r.element r.meaning h.number l.ring) l.xs l.cs l.bytes)
    l.initial.words l.words
