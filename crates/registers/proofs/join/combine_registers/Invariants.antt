use Rattle.std.proofs.Common.{ℕ, ◌+◌, ◌*◌, get_or}
use Rattle.registers.proofs.Rows.{Filled}
use Rattle.registers.proofs.join.combine_registers.Given as goal

abbrev pub invariant-loop-k : goal.invariant-loop-k
invariant-loop-k g l =
    let old = l.initial.words in
    Filled (256 * l.fn.join.d.number) l.k
    (λ (k : ℕ) (v : g.row.W.Denot). (e : g.row.W.Denot) →
    goal.F-post g l.combine (get_or old (256 * l.fn.join.a.number + k) e) (get_or old (256 * l.fn.join.b.number + k) e) v)
    old l.words
