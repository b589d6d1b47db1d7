use Rattle.std.proofs.Common.{ℕ, refl}
use Rattle.histories.specs.Calls.{refresh}
use Rattle.histories.specs.Serves.{done}
use Rattle.workspace.proofs.Served.{refuses_told, at_register, refreshes}
use Rattle.workspace.proofs.workspace.Workspace.refresh.Goals as goal

pub returns-in_err-register : goal.returns-in_err-register
returns-in_err-register g c = record { keeps = refl; serves = refuses_told _ _ _ _ _ _ c.from_residual.ensures.1 c.in_err-register.ensures.says }

pub returns : goal.returns
returns g c = record {
  keeps = refl;
  serves =
      at_register _ _ _ _ _ (λ (r : ℕ). refresh r c.args.bytes.now) done _ _ c.in_ok-register.ensures.found
      (λ h.
      refreshes _ _ _ _ _ _ _ h refl c.refresh_register.ensures.only c.refresh_register.ensures.means
      c.refresh_register.ensures.numbers)
      c.in_ok-register.ensures.says;
}
