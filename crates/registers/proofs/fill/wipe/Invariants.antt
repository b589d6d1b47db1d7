use Rattle.std.proofs.Common.{◌≡◌, ℕ, ◌<◌, get_or}
use Rattle.registers.proofs.fill.wipe.Given as goal

abbrev pub invariant-loop-word : goal.invariant-loop-word
invariant-loop-word g l = (k : ℕ) (d : g.row.G-Word.Denot) → k < l.word-index → get_or l.words k d ≡ l.zero
