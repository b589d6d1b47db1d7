use Rattle.std.proofs.Common.{ℕ, refl, ap, ◌∙◌, arith}
use Rattle.guarded.specs.Model.{guarded}
use Rattle.histories.specs.declared.register.Register.{Register}
use Rattle.histories.specs.Calls.{load, part, due, polynomial}
use Rattle.histories.specs.Serves.{done}
use Rattle.records.specs.Tables.{state}
use Rattle.workspace.proofs.Asked.{ruled, lent_all, load_sizes, load_range, load_digits, due_low}
use Rattle.workspace.proofs.Served.{refuses_told, at_register, loads}
use Rattle.histories.specs.Kinds.{kind_of}
use Rattle.workspace.proofs.workspace.Workspace.load_kind.Goals as goal

pub returns-in_err-register : goal.returns-in_err-register
returns-in_err-register g c = record { keeps = refl; serves = refuses_told _ _ _ _ _ _ c.from_residual.ensures.1 c.in_err-register.ensures.says }

pub load_register-requires : goal.load_register-requires
load_register-requires g c =
    let r = g.G.Ring in
    let h = g.G.GuardedRing in
    let ring = c.args.self.now.ring in
    let model = guarded h.check h.redundancy r.root r.element r.meaning h.number ring in
    let s = state c.args.self.now.table in
    let call = load polynomial c.args.r c.args.xs.now c.args.c c.args.bytes.now in
    let q = ruled model s _ (part c.args.words.now) call c.in_ok-register.ensures.says in
    let sizes = load_sizes model.p model.t s.registers _ polynomial c.args.r c.args.xs.now c.args.c c.args.bytes.now q in
    record {
      room = lent_all model.p model.t s.registers _ call q;
      sizes = (sizes.0, (omega arith, sizes.1));
      range = load_range model.p model.t s.registers _ polynomial c.args.r c.args.xs.now c.args.c c.args.bytes.now q;
      checks = due_low model (g.met.G.GuardedRing.lawful ring) _ _ _ _ c.residues_due.ensures;
      digits = load_digits model.p model.t s.registers _ polynomial c.args.r c.args.xs.now c.args.c c.args.bytes.now q;
    }

pub returns : goal.returns
returns g c =
    let r = g.G.Ring in
    let h = g.G.GuardedRing in
    let ring = c.args.self.now.ring in
    let model = guarded h.check h.redundancy r.root r.element r.meaning h.number ring in
    record {
      keeps = refl;
      serves =
          at_register model _ _ _ _ (λ (r : ℕ). load (kind_of c.args.kind) r c.args.xs.now c.args.c c.args.bytes.now) done _ _ c.in_ok-register.ensures.found
          (λ k.
          loads model _ _ _ _ (kind_of c.args.kind) _ _ _ _ _ k c.load.ensures c.load_register.ensures.only
          (c.residues_due.ensures ∙ ap (λ (x : Register). due model x) c.loaded.ensures)
          c.load_register.ensures.holds)
          c.in_ok-register.ensures.says;
    }
