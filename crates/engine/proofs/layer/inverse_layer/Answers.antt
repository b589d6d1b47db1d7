use Rattle.std.proofs.Common.{arith}
use Rattle.engine.proofs.Scaling.{scaled_last, unscaled_layer, went_back}
use Rattle.engine.proofs.layer.inverse_layer.Goals as goal

pub returns-then-masked-eq7 : goal.returns-then-masked-eq7
returns-then-masked-eq7 g c =
    let s = c.args.ring.now in
    record {
      all = c.scale.ensures.all;
      went = λ i v.
          went_back (g.R.Ring.modulus s) (g.R.Ring.root s) i c.args.masked.now.layer.number (g.met.R.Ring.halfway s) c.args.masked.now.layer.first c.args.masked.now.layer.last _ _ _ _
          (scaled_last _ _ i c.args.masked.now.layer.number _ _ _ _ _ c.if-masked-eq7.true c.inverse_butterflies.ensures.went (c.scale.ensures.scaled i v));
    }

pub returns-else-masked-eq7 : goal.returns-else-masked-eq7
returns-else-masked-eq7 g c =
    let s = c.args.ring.now in
    record {
      all = c.inverse_butterflies.ensures.all;
      went = λ i v.
          went_back (g.R.Ring.modulus s) (g.R.Ring.root s) i c.args.masked.now.layer.number (g.met.R.Ring.halfway s) c.args.masked.now.layer.first c.args.masked.now.layer.last _ _ _ _
          (unscaled_layer _ _ i c.args.masked.now.layer.number _ _ _ _ (omega arith) c.inverse_butterflies.ensures.went);
    }
