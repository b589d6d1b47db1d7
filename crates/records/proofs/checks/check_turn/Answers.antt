use Rattle.std.proofs.Common.{sym}
use Rattle.records.proofs.Chains.{passed, unflawed}
use Rattle.records.proofs.Turning.{turns_found}
use Rattle.records.proofs.checks.check_turn.Goals as goal

pub returns-clause-found : goal.returns-clause-found
returns-clause-found c =
    let s = c.args.table.now in
    rw (sym c.in_ok-register.ensures)
    (turns_found s.records s.masks.items c.args.way c.args.masks.now
    (record { register = c.in_ok-register.register; layer = c.in_ok-layer.layer; next = _ }) s.kept s.eight c.in_ok-layer.ensures.found
    c.form_after-next.ensures (unflawed _ _ c.in_ok-unhindered.ensures) (passed _ _ c.in_ok-suited.ensures))
