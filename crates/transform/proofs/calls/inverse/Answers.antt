use Rattle.std.proofs.Common.{arith}
use Rattle.transform.proofs.Passing.{transform_passed}
use Rattle.transform.proofs.Plains.{row_of}
use Rattle.transform.proofs.Written.{inverted_by}
use Rattle.transform.proofs.calls.inverse.Goals as goal

pub inverse_layers-requires : goal.inverse_layers-requires
inverse_layers-requires c =
    let passed = transform_passed c.args.f.now c.args.out.now c.in_ok-may_transform.ensures in
    row_of _ _ _ _ c.ml_kem_ring.ensures passed c.copy_from_slice.ensures.after

pub returns : goal.returns
returns c =
    let passed = transform_passed c.args.f.now c.args.out.now c.in_ok-may_transform.ensures in
    record {
      answers = c.in_ok-may_transform.ensures;
      writes =
          inverted_by c.ml_kem_ring.result.modulus c.ml_kem_ring.ensures c.args.f.now c.copy_from_slice.new.self c.inverse_layers.new.words
          c.copy_from_slice.ensures.after passed.size passed.range (omega arith) c.inverse_layers.ensures.all c.inverse_layers.ensures.transformed;
    }
