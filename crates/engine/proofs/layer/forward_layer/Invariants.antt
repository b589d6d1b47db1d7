use Rattle.std.proofs.Common.{pred}
use Rattle.algebra.specs.Layers.{forward_len}
use Rattle.engine.specs.Rows.{LayerWritten}
use Rattle.engine.specs.Pairs.{forward_pairs}
use Rattle.engine.proofs.layer.forward_layer.Given as goal

abbrev pub invariant-loop-index : goal.invariant-loop-index
invariant-loop-index g l =
    let r = g.R.Ring in
    let s = l.ring in
    LayerWritten (r.element s) (r.meaning s) (forward_len l.masked.layer.number) l.index (forward_pairs (pred (r.modulus s)) (r.root s) l.masked.layer.number (forward_len l.masked.layer.number) l.masked.before.now l.masked.list.now) l.initial.words l.words
