use Rattle.std.proofs.Common.{refl, arith}
use Rattle.transform.proofs.Passing.{product_passed}
use Rattle.transform.proofs.Plains.{row_of}
use Rattle.transform.proofs.Written.{multiplied_by}
use Rattle.transform.proofs.calls.multiply.Goals as goal

pub base_products-requires : goal.base_products-requires
base_products-requires c =
    let passed = product_passed c.args.f.now c.args.g.now c.args.out.now c.in_ok-may_multiply.ensures in
    record {
      left = row_of _ _ _ _ c.ml_kem_ring.ensures passed.0 refl;
      right = row_of _ _ _ _ c.ml_kem_ring.ensures passed.1 refl;
      out = passed.0.room;
    }

pub returns : goal.returns
returns c =
    let passed = product_passed c.args.f.now c.args.g.now c.args.out.now c.in_ok-may_multiply.ensures in
    let left = passed.0 in
    let right = passed.1 in
    record {
      answers = c.in_ok-may_multiply.ensures;
      writes =
          multiplied_by c.ml_kem_ring.result.modulus c.ml_kem_ring.ensures c.args.f.now c.args.g.now c.base_products.new.out
          left.size left.range right.size right.range (omega arith) c.base_products.ensures.all c.base_products.ensures.products;
    }
