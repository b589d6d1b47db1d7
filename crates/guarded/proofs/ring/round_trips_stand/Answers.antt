use Rattle.guarded.proofs.Trips.{round_trips}
use Rattle.guarded.proofs.ring.round_trips_stand.Goals as goal

pub returns : goal.returns
returns g c = λ s. round_trips _ (g.met.G.GuardedRing.lawful s)
