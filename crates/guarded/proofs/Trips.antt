-- A meaning is known by its remainders, so lift and split undo each other.
use Rattle.algebra.proofs.Remainders.{known_by}
use Rattle.guarded.specs.Model.{Guarded, Lawful, RoundTrips}

pub round_trips : {W : Type 0} (G : Guarded W) → Lawful G → RoundTrips G
round_trips G law =
    record {
      lift_of_split = λ u v e l.
          law.unique u v l.element e
          (known_by G.p law.above law.prime _ _ (law.below u l.element) (law.below v e) l.coefficient l.check)
          l.number;
      split_of_lift = λ s c k v l. (l.coefficient, l.check);
    }
