use Rattle.std.proofs.Common.{length}
use Rattle.std.specs.Iterator.Adapters.{zip_first, zip_second}
use Rattle.decrypt.proofs.Walks.{Walked}
use Rattle.decrypt.proofs.arithmetic.decrypt.Given as goal

abbrev pub invariant-loop-u_i : goal.invariant-loop-u_i
invariant-loop-u_i l =
    (goal.iterator-loop-u_i).can_next l.u_i-iterator
    × ((goal.iterator-loop-u_i).is_finite l.u_i-iterator
    × Walked (length l.yielded) l.u l.s l.v l.w (zip_first l.u_i-iterator) (zip_second l.u_i-iterator))
