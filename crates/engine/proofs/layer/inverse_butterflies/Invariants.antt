use Rattle.std.proofs.Common.{pred}
use Rattle.algebra.specs.Layers.{inverse_len}
use Rattle.engine.specs.Rows.{LayerWritten}
use Rattle.engine.specs.Pairs.{inverse_pairs}
use Rattle.engine.proofs.layer.inverse_butterflies.Given as goal

abbrev pub invariant-loop-index : goal.invariant-loop-index
invariant-loop-index g l =
    let r = g.R.Ring in
    let s = l.ring in
    LayerWritten (r.element s) (r.meaning s) (inverse_len 7 l.masked.layer.number) l.index (inverse_pairs (pred (r.modulus s)) (r.root s) l.masked.layer.number (inverse_len 7 l.masked.layer.number) l.masked.before.now l.masked.list.now) l.initial.words l.words
