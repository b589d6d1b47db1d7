use Rattle.std.proofs.Common.{◌≡◌, suc, pred, ◌*◌, length, arith}
use Rattle.guarded.specs.Model.{guarded}
use Rattle.transform.proofs.GuardedRows.{guarded_row}
use Rattle.transform.proofs.Passing.{guarded_passed}
use Rattle.transform.proofs.blinded.forward_guarded.Goals as goal

pub returns : goal.returns
returns g c =
    let f = c.args.f.now in
    let s = c.args.ring.now in
    let r = g.G.Ring in
    let h = g.G.GuardedRing in
    let model = guarded h.check h.redundancy r.root r.element r.meaning h.number s in
    let law = g.met.G.GuardedRing.lawful s in
    let checked = guarded_passed f (length c.args.words.now) c.args.out.now c.in_ok-may_transform_guarded.ensures in
    let passed = checked.0 in
    let many : length c.args.words.now ≡ 256 = checked.1 in
    let check : h.check s ≡ suc (pred (h.check s)) = omega (arith, law.above) in
    let joint : suc (pred (r.modulus s)) ≡ 3329 * suc (pred (h.check s)) = omega (arith, law.above, g.met.G.GuardedRing.joint s) in
    let written = guarded_row model law (pred (h.check s)) (pred (r.modulus s)) check joint f passed.size passed.range
    c.lift_row.new.words c.forward_layers.new.words (omega arith) (omega arith) c.lift_row.ensures c.forward_layers.ensures.transformed
    c.split_row.new.out (omega arith) c.forward_layers.ensures.all c.split_row.ensures in
    record { answers = c.in_ok-may_transform_guarded.ensures; writes = written.0; words = written.1 }
