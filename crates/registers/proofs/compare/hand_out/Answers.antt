use Rattle.std.proofs.Common.{◌%◌, sym, ap, ◌∙◌, arith}
use Rattle.rings.proofs.Flaws.{at_none}
use Rattle.registers.proofs.Lists.{map_map_at}
use Rattle.registers.proofs.compare.hand_out.Goals as goal

pub split-s-requires : goal.split-s-requires
split-s-requires g c =
    let element = g.G.Ring.element c.args.ring.now in
    ap element c.w-item.is ∙ at_none element c.row-w-items.result.now (rw c.row-w-items.ensures.words c.requires.tested) c.loop-k.k _ c.loop-k-test.true

pub returns : goal.returns
returns g c =
    sym (rw (← c.row-w-items.ensures.words)
    (map_map_at (λ y. y % 3329) (g.G.Ring.meaning c.args.ring.now) c.row-w-items.result.now c.loop-k.out (omega arith) (λ j d h. sym (c.loop-k.invariant j d (omega arith)))))
