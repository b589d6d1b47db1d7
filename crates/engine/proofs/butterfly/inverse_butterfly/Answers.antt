use Rattle.std.proofs.Common.{◌<◌, arith}
use Rattle.engine.proofs.Numbers.{inverse_numbers}
use Rattle.engine.proofs.Rows.{pair_written, element_read}
use Rattle.engine.proofs.butterfly.inverse_butterfly.Goals as goal

pub returns : goal.returns
returns g c =
    let s = c.args.ring.now in
    let element = g.R.Ring.element s in
    let meaning = g.R.Ring.meaning s in
    let h : c.args.masks.own < 256 = omega arith in
    pair_written element meaning c.args.i c.args.j _ c.args.words.now c.index-words-i.result c.index-words-j.result _ _
    c.requires.inside.0 c.requires.inside.1 c.requires.all c.product.ensures.stays c.product-2.ensures.stays
    c.index-words-i.is c.index-words-j.is
    (inverse_numbers _ _ c.args.z c.args.masks.own c.args.masks.low c.args.masks.high _ _ _ _ _ _ _ _
    (g.met.R.Ring.below s c.index-words-i.result (element_read element c.args.words.now c.args.i c.index-words-i.result c.requires.all (omega arith) c.index-words-i.is))
    h c.power-u.ensures.means c.power-v.ensures.means c.sum-s.ensures.means c.difference-d.ensures.means
    c.product.ensures.means c.product-2.ensures.means)
