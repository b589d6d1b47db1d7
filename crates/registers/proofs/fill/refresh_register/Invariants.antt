use Rattle.std.proofs.Common.{◌*◌}
use Rattle.guarded.specs.Model.{guarded}
use Rattle.registers.proofs.Rows.{Filled}
use Rattle.registers.proofs.Lifting.{Renumbered}
use Rattle.registers.proofs.fill.refresh_register.Given as goal

abbrev pub invariant-loop-k : goal.invariant-loop-k
invariant-loop-k g l =
    let r = g.G.Ring in
    let h = g.G.GuardedRing in
    Filled (256 * l.fn.r.number) l.k
    (Renumbered (guarded h.check h.redundancy r.root r.element r.meaning h.number l.ring) l.initial.words l.fn.r.number l.bytes)
    l.initial.words l.words
