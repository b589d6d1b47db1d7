use Prim.Native.Nat.{ℕ, ◌<◌}
use mathlib.Core.Path.{◌≡◌}
use lib.ListN.{get_or}
use Rattle.witness.proofs.Coefficients.{value}
use Rattle.witness.proofs.natural.coefficients_due.Given as goal

abbrev pub invariant-loop-number : goal.invariant-loop-number
invariant-loop-number g l =
    (l.x ≡ value l.modulus.p.number l.a l.b l.number-index)
    × ((j : ℕ) → j < l.number-index → get_or l.numbers j 0 ≡ value l.modulus.p.number l.a l.b j)
