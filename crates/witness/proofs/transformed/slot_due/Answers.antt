use native.Mathlib.Omega.{arith}
use Rattle.witness.proofs.Numbers.{slot_first, slot_second}
use Rattle.witness.proofs.transformed.slot_due.Goals as goal

pub returns : goal.returns
returns g c =
    record {
      first =
          slot_first c.args.register.a c.args.register.b c.args.s c.product.result c.product-2.result c.product-square.result c.sum-both.result
          _ _ _ _ (omega arith) c.product.ensures c.product-square.ensures c.product-2.ensures c.sum-both.ensures c.product-turned.ensures c.sum.ensures;
      second =
          slot_second c.args.register.a c.args.register.b c.args.s c.product.result c.product-2.result c.product-square.result c.sum-both.result
          _ _ (omega arith) c.product.ensures c.product-square.ensures c.product-2.ensures c.sum-both.ensures c.sum-2.ensures;
    }
