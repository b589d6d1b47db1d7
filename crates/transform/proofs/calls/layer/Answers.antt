use Rattle.std.proofs.Common.{arith}
use Rattle.transform.proofs.Passing.{transform_passed}
use Rattle.transform.proofs.Plains.{row_of}
use Rattle.transform.proofs.Written.{forward_layered_by, inverse_layered_by}
use Rattle.transform.proofs.calls.layer.Goals as goal

pub forward_layer-requires : goal.forward_layer-requires
forward_layer-requires c =
    let passed = transform_passed c.args.f.now c.args.out.now c.in_ok-may_transform.ensures in
    row_of _ _ _ _ c.ml_kem_ring-ring.ensures passed c.copy_from_slice.ensures.after

pub inverse_layer-requires : goal.inverse_layer-requires
inverse_layer-requires c =
    let passed = transform_passed c.args.f.now c.args.out.now c.in_ok-may_transform.ensures in
    row_of _ _ _ _ c.ml_kem_ring-ring.ensures passed c.copy_from_slice.ensures.after

pub returns-in-Forward-clause-writes : goal.returns-in-Forward-clause-writes
returns-in-Forward-clause-writes c =
    let passed = transform_passed c.args.f.now c.args.out.now c.in_ok-may_transform.ensures in
    let layer = c.in_ok-masked.masked.layer in
    let asked = c.in_ok-masked.ensures in
    rw (c.in-Forward.is, ← asked.layer, ← asked.before, ← asked.list)
    (forward_layered_by c.ml_kem_ring-ring.result.modulus c.ml_kem_ring-ring.ensures c.args.f.now c.copy_from_slice.new.self c.forward_layer.new.words
    c.copy_from_slice.ensures.after passed.size passed.range (omega arith)
    layer.number layer.first layer.last _ _ c.forward_layer.ensures.all c.forward_layer.ensures.went)

pub returns-in-Inverse-clause-writes : goal.returns-in-Inverse-clause-writes
returns-in-Inverse-clause-writes c =
    let passed = transform_passed c.args.f.now c.args.out.now c.in_ok-may_transform.ensures in
    let layer = c.in_ok-masked.masked.layer in
    let asked = c.in_ok-masked.ensures in
    rw (c.in-Inverse.is, ← asked.layer, ← asked.before, ← asked.list)
    (inverse_layered_by c.ml_kem_ring-ring.result.modulus c.ml_kem_ring-ring.ensures c.args.f.now c.copy_from_slice.new.self c.inverse_layer.new.words
    c.copy_from_slice.ensures.after passed.size passed.range (omega arith)
    layer.number layer.first layer.last _ _ c.inverse_layer.ensures.all c.inverse_layer.ensures.went)
