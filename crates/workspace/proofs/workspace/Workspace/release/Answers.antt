use Rattle.std.proofs.Common.{ℕ, length, refl, ap}
use Rattle.std.proofs.lemmas.Result.{err_from_is_err_and}
use Rattle.histories.specs.declared.register.Register.{Register}
use Rattle.histories.specs.Calls.{release}
use Rattle.workspace.proofs.Asked.{or_some}
use Rattle.workspace.proofs.Served.{refuses_at, at_register, releases, judged}
use Rattle.workspace.proofs.workspace.Workspace.release.Goals as goal

pub returns-in_err-check_release : goal.returns-in_err-check_release
returns-in_err-check_release g c =
    let law = g.met.G.GuardedRing.lawful c.args.self.now.ring in
    let p = err_from_is_err_and c.from_residual.result c.from_residual.ensures.1 in
    let served = refuses_at _ _ _ _ _ (or_some _ _ _ c.in_err-check_release.ensures.says) in
    record {
      serves = rw (p.1, p.2) served;
      keeps = rw p.1 refl;
      cleaned = record { zero = λ h. absurd (c.if-n-ne256.true h); other = λ h. refl };
      judged = rw (p.1, p.2) (judged _ _ _ law _ _ served);
    }

pub returns-in_err-register : goal.returns-in_err-register
returns-in_err-register g c =
    let law = g.met.G.GuardedRing.lawful c.args.self.now.ring in
    let p = err_from_is_err_and c.from_residual-in_err-register.result c.from_residual-in_err-register.ensures.1 in
    let served = refuses_at _ _ _ _ _ c.in_err-register.ensures.says in
    record {
      serves = rw (p.1, p.2) served;
      keeps = rw p.1 refl;
      cleaned = record { zero = λ h. c.drop-guard.ensures; other = λ h. absurd (h c.if-n-ne256.false) };
      judged = rw (p.1, p.2) (judged _ _ _ law _ _ served);
    }

pub returns : goal.returns
returns g c =
    let law = g.met.G.GuardedRing.lawful c.args.self.now.ring in
    let served =
    at_register _ _ _ _ _ (λ (r : ℕ). release r (length c.args.out.now) (length c.args.scratch.now)) _ _ _ c.in_ok-register.ensures.found
    (λ h. releases _ _ _ _ _ _ _ _ h (ap (λ (x : Register). x.form) c.record_of.ensures) c.hand_out.ensures) c.in_ok-register.ensures.says in
    record {
      serves = served;
      keeps = tt;
      cleaned = record { zero = λ h. c.drop-guard-2.ensures; other = λ h. absurd (h c.if-n-ne256.false) };
      judged = judged _ _ _ law _ _ served;
    }
