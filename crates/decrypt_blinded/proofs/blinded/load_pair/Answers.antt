use Rattle.std.proofs.Common.{◌∙◌, subst, arith}
use Rattle.algebra.specs.declared.Direction.TheVariants.{Forward}
use Rattle.records.specs.Tables.{state}
use Rattle.decrypt_blinded.specs.Steps.{Turned}
use Rattle.decrypt_blinded.proofs.Stepping.{ring_model, serves_in, pairs}
use Rattle.decrypt_blinded.proofs.blinded.load_pair.Goals as goal

pub returns : goal.returns
returns g c =
    let M = ring_model g.G.Ring g.G.GuardedRing in
    let first = c.in_ok-load.ensures in
    let all = c.in_ok-turn_all.ensures in
    let second = c.in_ok-load_hat.ensures in
    let ring₁ = first.keeps in
    let ring₂ = all.keeps ∙ ring₁ in
    record {
      keeps = second.keeps ∙ ring₂;
      paired =
          pairs (M c.args.space.now.ring) _ _ _ _ _ _ _ _ _ _ _ _ _ _ (omega arith) (omega arith) first.serves
          (subst (λ q. Turned (M q) (state c.load.new.self.table) c.load.new.words (state c.turn_all.new.space.table) c.turn_all.new.words Forward 0) ring₁ all.turned)
          (serves_in M ring₂ second.serves);
    }
