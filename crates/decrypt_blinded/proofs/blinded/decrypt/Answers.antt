use Rattle.std.proofs.Common.{◌-◌, ◌∙◌, subst, arith, length-take-le}
use Rattle.algebra.specs.declared.Direction.TheVariants.{Inverse}
use Rattle.records.specs.Tables.{state}
use Rattle.decrypt_blinded.specs.Steps.{Turned, products}
use Rattle.decrypt_blinded.proofs.Stepping.{ring_model, serves_in, finishes}
use Rattle.decrypt_blinded.proofs.Finishing.{released, restored}
use Rattle.decrypt_blinded.proofs.blinded.decrypt.Goals as goal

pub slice_bounds-turn_all-end : goal.slice_bounds-turn_all-end
slice_bounds-turn_all-end g c =
    omega (arith, length-take-le 96 c.split_at.result.1.now (omega (arith, c.split_at.ensures.back_len, c.args.blinded.now.random_size)))

pub turn_all-requires : goal.turn_all-requires
turn_all-requires g c = (omega arith, length-take-le 96 c.split_at.result.1.now (omega (arith, c.split_at.ensures.back_len, c.args.blinded.now.random_size)))

pub returns : goal.returns
returns g c =
    let M = ring_model g.G.Ring g.G.GuardedRing in
    let ring = c.args.space.now.ring in
    let sums = c.in_ok-sum_products.ensures in
    let ring₁ = sums.keeps in
    let turns = c.in_ok-turn_all.ensures in
    let ring₂ = turns.keeps ∙ ring₁ in
    let load = c.in_ok-load.ensures in
    let ring₃ = load.keeps ∙ ring₂ in
    let minus = c.in_ok-subtract.ensures in
    let ring₄ = minus.keeps ∙ ring₃ in
    let s₁ = state c.sum_products.new.space.table in
    let s₂ = state c.turn_all.new.space.table in
    let s₄ = state c.subtract.new.self.table in
    let us = c.args.blinded.now.rows.u.now in
    let ss = c.args.blinded.now.rows.s.now in
    let v = c.args.blinded.now.rows.v.now in
    let rank = c.args.blinded.now.rows.rank.number in
    record {
      keeps = ring₄;
      right = λ L t.
          let kept = finishes (M ring) s₁ s₂ _ s₄ c.sum_products.new.words c.turn_all.new.words _ c.subtract.new.words v (products us ss (rank - 1)) _ _ (omega arith) (omega arith)
          (sums.summed L t)
          (subst (λ q. Turned (M q) s₁ c.sum_products.new.words s₂ c.turn_all.new.words Inverse 2) ring₁ turns.turned)
          (serves_in M ring₂ load.serves) (serves_in M ring₃ minus.serves) in
          restored rank us ss v c.release.new.out (omega arith) (released M ring₄ kept (omega arith) c.in_ok-release.ensures.judged);
    }
