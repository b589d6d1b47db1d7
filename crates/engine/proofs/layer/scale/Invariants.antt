use Rattle.std.proofs.Common.{pred}
use Rattle.engine.specs.Rows.{Multiplied}
use Rattle.engine.proofs.layer.scale.Given as goal

abbrev pub invariant-loop-word : goal.invariant-loop-word
invariant-loop-word g l =
    let r = g.R.Ring in
    let s = l.ring in
    Multiplied (r.element s) (r.meaning s) (pred (r.modulus s)) (r.meaning s l.inverse) l.word-index l.initial.words l.words
