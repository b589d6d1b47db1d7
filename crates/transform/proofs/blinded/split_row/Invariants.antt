use Rattle.std.proofs.Common.{◌≡◌, ℕ, ◌%◌, ◌<◌, get_or}
use Rattle.engine.specs.Rows.{held}
use Rattle.transform.proofs.blinded.split_row.Given as goal

abbrev pub invariant-loop-i : goal.invariant-loop-i
invariant-loop-i g l = (k : ℕ) → k < l.i → get_or l.out k 0 ≡ held (g.G.Ring.meaning l.ring) l.words k % 3329
