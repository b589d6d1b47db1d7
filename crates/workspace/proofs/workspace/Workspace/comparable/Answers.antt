use Rattle.std.proofs.Common.{rules}
use Rattle.histories.proofs.Whole.{whole}
use Rattle.workspace.proofs.workspace.Workspace.comparable.Goals as goal

pub returns : goal.returns
returns g c = record { answers = search rules; stands = whole _ _ _ _ (g.met.G.GuardedRing.lawful _) (g.met.H.GuardedRing.lawful _) }
