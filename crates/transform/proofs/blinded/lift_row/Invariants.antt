use Rattle.std.proofs.Common.{ℕ, ◌<◌, get_or}
use Rattle.guarded.specs.Model.{guarded, Lifted}
use Rattle.transform.proofs.blinded.lift_row.Given as goal

abbrev pub invariant-loop-i : goal.invariant-loop-i
invariant-loop-i g l =
    let r = g.G.Ring in
    let h = g.G.GuardedRing in
    (k : ℕ) (d : g.row.G-Word.Denot) → k < l.i →
    Lifted (guarded h.check h.redundancy r.root r.element r.meaning h.number l.ring) (get_or l.f k 0) 0 0 (get_or l.words k d)
