use Rattle.std.proofs.Common.{refl}
use Rattle.guarded.specs.Model.{guarded}
use Rattle.histories.specs.Calls.{part, turn}
use Rattle.records.specs.Tables.{state}
use Rattle.workspace.proofs.Asked.{sound}
use Rattle.workspace.proofs.Served.{refuses_told, turned}
use Rattle.workspace.proofs.workspace.Workspace.turn.Goals as goal

pub returns-in_err-turn : goal.returns-in_err-turn
returns-in_err-turn g c = record { keeps = refl; serves = refuses_told _ _ _ _ _ _ c.from_residual.ensures.1 c.in_err-turn.ensures.says }

pub turn_register-requires-clause-tested : goal.turn_register-requires-clause-tested
turn_register-requires-clause-tested g c =
    let r = g.G.Ring in
    let h = g.G.GuardedRing in
    let model = guarded h.check h.redundancy r.root r.element r.meaning h.number c.args.self.now.ring in
    rw c.in_ok-turn.ensures.found.register_is
    (sound model (state c.args.self.now.table) _ (part c.args.words.now) (turn c.args.way c.args.r c.args.masks.now) c.in_ok-turn.ensures.says).0

pub returns : goal.returns
returns g c = record {
  keeps = refl;
  serves =
      turned _ _ _ _ _ _ _ _ _ _ c.in_ok-turn.ensures.says c.in_ok-turn.ensures.found c.advance.ensures c.incoming.ensures
      c.turn_register.ensures.only c.turn_register.ensures.means;
}
