use Rattle.std.proofs.Common.{refl, arith}
use Rattle.guarded.specs.Model.{guarded}
use Rattle.histories.specs.Calls.{join, part}
use Rattle.records.specs.Tables.{state}
use Rattle.workspace.proofs.Asked.{ruled, sound, lent_all, join_whole}
use Rattle.workspace.proofs.Served.{refuses_told, joined_as}
use Rattle.histories.specs.Kinds.{operation_of}
use Rattle.workspace.proofs.workspace.Workspace.join.Goals as goal

pub returns-in_err-join : goal.returns-in_err-join
returns-in_err-join g c = record { keeps = refl; serves = refuses_told _ _ _ _ _ _ c.from_residual.ensures.1 c.in_err-join.ensures.says }

pub join_registers-requires : goal.join_registers-requires
join_registers-requires g c =
    let r = g.G.Ring in
    let h = g.G.GuardedRing in
    let ring = c.args.self.now.ring in
    let model = guarded h.check h.redundancy r.root r.element r.meaning h.number ring in
    let s = state c.args.self.now.table in
    let call = join (operation_of c.args.operation) c.args.d c.args.a c.args.b in
    let ok = c.in_ok-join.ensures.says in
    let q = ruled model s _ (part c.args.words.now) call ok in
    let words = sound model s _ (part c.args.words.now) call ok in
    record {
      size = lent_all model.p model.t s.registers _ call q;
      left = rw c.in_ok-join.ensures.found.a_is words.0;
      right = rw c.in_ok-join.ensures.found.b_is words.1.0;
    }

pub join-requires : goal.join-requires
join-requires g c =
    let r = g.G.Ring in
    let h = g.G.GuardedRing in
    let ring = c.args.self.now.ring in
    let model = guarded h.check h.redundancy r.root r.element r.meaning h.number ring in
    let s = state c.args.self.now.table in
    let call = join (operation_of c.args.operation) c.args.d c.args.a c.args.b in
    let q = ruled model s _ (part c.args.words.now) call c.in_ok-join.ensures.says in
    let law = g.met.G.GuardedRing.lawful ring in
    record {
      modulus = omega (arith, law.above, c.check_modulus.ensures);
      entire =
          rw c.in_ok-join.ensures.found.a_is (join_whole model.p model.t s.registers _ (operation_of c.args.operation) c.args.d c.args.a c.args.b q);
    }

pub returns : goal.returns
returns g c = record {
  keeps = refl;
  serves =
      joined_as _ _ _ _ _ _ _ _ _ _ _ c.in_ok-join.ensures.says c.in_ok-join.ensures.found c.check_modulus.ensures c.join.ensures
      c.join_registers.ensures.only c.join_registers.ensures.means;
}
