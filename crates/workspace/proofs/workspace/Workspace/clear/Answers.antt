use Rattle.std.proofs.Common.{refl}
use Rattle.workspace.proofs.Asked.{or_none}
use Rattle.histories.specs.Calls.{clear}
use Rattle.histories.specs.Serves.{done}
use Rattle.workspace.proofs.Served.{refuses_told, at_register, clears}
use Rattle.workspace.proofs.workspace.Workspace.clear.Goals as goal

pub returns-in_err-register : goal.returns-in_err-register
returns-in_err-register g c = record { keeps = refl; serves = refuses_told _ _ _ _ _ _ c.from_residual.ensures.1 (or_none _ _ c.in_err-register.ensures.says) }

pub returns : goal.returns
returns g c = record {
  keeps = refl;
  serves =
      at_register _ _ _ _ _ clear done _ _ c.in_ok-register.ensures.found (λ h. clears _ _ _ _ _ _ h c.clear.ensures refl)
      (or_none _ _ c.in_ok-register.ensures.says);
}
