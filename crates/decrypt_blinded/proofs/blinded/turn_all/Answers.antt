use Rattle.std.proofs.Common.{refl, length, ◌∙◌, rules, arith}
use Rattle.std.proofs.lemmas.List.{length_push}
use Rattle.decryption.proofs.Chunks.{comes, ends}
use Rattle.decrypt_blinded.proofs.Stepping.{ring_model, serves_in, turned_none, turned_more, turned_last}
use Rattle.decrypt_blinded.proofs.blinded.turn_all.Goals as goal

pub loop-list-init : goal.loop-list-init
loop-list-init g c = (refl, record { wide = omega arith; each = search rules; rest = search rules; room = omega arith }, λ L f e t. turned_none _ _ _ c.args.way c.args.r L f e t)

pub loop-list-preserved : goal.loop-list-preserved
loop-list-preserved g c =
    let M = ring_model g.G.Ring g.G.GuardedRing in
    let n = length c.loop-list.yielded in
    let ring = c.loop-list.invariant.0 in
    let a = comes 16 n c.args.masks.now c.in-Some.list c.loop-list.list-iterator c.next.new.self c.loop-list.invariant.1 c.in-Some.ensures.steps in
    rw (length_push c.loop-list.yielded c.in-Some.list) (
      c.in_ok-turn_one.ensures.keeps ∙ ring,
      a.left,
      λ L f e t. turned_more (M c.args.space.now.ring) _ _ _ _ c.args.way c.args.r _ n L f (omega arith)
          (serves_in M ring c.in_ok-turn_one.ensures.serves) (c.loop-list.invariant.2 L f e t),
    )

pub returns-clause-turned : goal.returns-clause-turned
returns-clause-turned g c =
    let M = ring_model g.G.Ring g.G.GuardedRing in
    let n = length c.loop-list.yielded in
    let short = ends 16 n c.args.masks.now c.loop-list.list-iterator c.next.new.self c.loop-list.invariant.1 (c.in-None.ensures.steps) in
    let served = serves_in M c.loop-list.invariant.0 c.turn_one-2.ensures.serves in
    turned_last (M c.args.space.now.ring) c.turn_one-2.result _ _ _ c.args.words.now c.loop-list.words _ c.args.way c.args.r n (omega (arith, short, c.loop-list.invariant.1.room)) (omega arith) served c.loop-list.invariant.2
