use Rattle.std.proofs.Common.{◌≡◌, ℕ, ◌%◌, ◌<◌, get_or}
use Rattle.registers.proofs.compare.hand_out.Given as goal

abbrev pub invariant-loop-k : goal.invariant-loop-k
invariant-loop-k g l = (j : ℕ) (d : g.row.G-Word.Denot) → j < l.k → get_or l.out j 0 ≡ g.G.Ring.meaning l.ring (get_or l.w-items j d) % 3329
