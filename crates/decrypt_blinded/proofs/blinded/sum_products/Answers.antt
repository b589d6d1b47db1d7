use Rattle.std.proofs.Common.{◌≡◌, ℕ, ◌-◌, ◌+◌, length, sym, refl, ◌∙◌, subst, rules, arith}
use Rattle.std.proofs.lemmas.List.{length_push}
use Rattle.std.specs.Iterator.Adapters.{zip_first, zip_second}
use Rattle.histories.specs.Tracked.{Keeps}
use Rattle.records.specs.Tables.{state}
use Rattle.decryption.specs.Restored.{part}
use Rattle.decryption.proofs.Chunks.{comes}
use Rattle.decrypt_blinded.specs.Steps.{Paired, products}
use Rattle.decrypt_blinded.proofs.Stepping.{ring_model, serves_in, keeps_in, begins, continues_at}
use Rattle.decrypt_blinded.proofs.Walking.{walked_more, walked_all}
use Rattle.decrypt_blinded.proofs.blinded.sum_products.Goals as goal

pub loop-u_i-init : goal.loop-u_i-init
loop-u_i-init g c =
    let B = c.args.blinded.now in (
      ((search rules, search rules), search rules),
      tt,
      refl,
      record {
        u_left = record { wide = omega arith; each = cc; rest = cc; room = omega (arith, B.rows.u_size, B.rows.rank.first) };
        s_left = record { wide = omega arith; each = cc; rest = cc; room = omega (arith, B.rows.s_size, B.rows.rank.first) };
        bytes_left = record { wide = omega arith; each = cc; rest = cc; room = omega (arith, B.random_size, B.rows.rank.first) };
      },
      λ k. k,
    )

pub loop-u_i-preserved : goal.loop-u_i-preserved
loop-u_i-preserved g c =
    let M = ring_model g.G.Ring g.G.GuardedRing in
    let n = length c.loop-u_i.yielded in
    let from = c.loop-u_i.u_i-iterator in
    let to = c.next.new.self in
    let us = c.args.blinded.now.rows.u.now in
    let ss = c.args.blinded.now.rows.s.now in
    let W = c.loop-u_i.invariant.3 in
    let steps = c.in-Some.ensures.steps in
    let x = comes 256 (n + 1) us c.in-Some.u_i (zip_first (zip_first from)) (zip_first (zip_first to)) W.u_left steps.0.0 in
    let y = comes 256 (n + 1) ss c.in-Some.s_i (zip_second (zip_first from)) (zip_second (zip_first to)) W.s_left steps.0.1 in
    let z = comes 612 (n + 1) c.args.blinded.now.random.now c.in-Some.bytes (zip_second from) (zip_second to) W.bytes_left steps.1 in
    let ring₁ = c.loop-u_i.invariant.2 in
    let pair = c.in_ok-load_pair-2.ensures in
    let ring₂ = pair.keeps ∙ ring₁ in
    let first = c.in_ok-multiply-2.ensures in
    let ring₃ = first.keeps ∙ ring₂ in
    let second = c.in_ok-add.ensures in
    let s₁ = state c.loop-u_i.space.table in
    let s₂ = state c.load_pair-in-loop-u_i.new.space.table in
    let w₁ = c.loop-u_i.words in
    let w₂ = c.load_pair-in-loop-u_i.new.words in
    let paired = subst (λ q. Paired (M q) s₁ w₁ s₂ w₂ (part us (n + 1)) (part ss (n + 1))) ring₁ (rw (← x.is, ← y.is) pair.paired) in
    rw (length_push c.loop-u_i.yielded ((c.in-Some.u_i, c.in-Some.s_i), c.in-Some.bytes)) (
      ((omega (arith, x.left.each), omega (arith, y.left.each)), omega (arith, z.left.each)),
      tt,
      second.keeps ∙ ring₃,
      walked_more n us ss _ _ _ _ _ _ _ x y z,
      λ k. continues_at (M c.multiply.new.self.ring) s₁ s₂ _ _ w₁ w₂ _ _ us ss n (omega arith) (omega arith) (c.loop-u_i.invariant.4 k) paired
          (serves_in M ring₂ first.serves) (serves_in M ring₃ second.serves),
    )

pub returns : goal.returns
returns g c =
    let M = ring_model g.G.Ring g.G.GuardedRing in
    let pair = c.in_ok-load_pair.ensures in
    let ring₁ = pair.keeps in
    let product = c.in_ok-multiply.ensures in
    let ring₂ = product.keeps ∙ ring₁ in
    let us = c.args.blinded.now.rows.u.now in
    let ss = c.args.blinded.now.rows.s.now in
    let B = c.args.blinded.now in
    let rank = B.rows.rank.number in
    let loop = c.loop-u_i.invariant in
    let last : length c.loop-u_i.yielded ≡ rank - 1 = walked_all _ rank us ss _ _ _ _ B.rows.u_size B.rows.s_size B.random_size loop.3 c.in-None.ensures.steps in
    record {
      keeps = loop.2 ∙ ring₂;
      summed = λ L t.
          let size : length c.load_pair.new.words ≡ 2048 = omega arith in
          let paired : Paired (M c.args.space.now.ring) (state c.args.space.now.table) c.args.words.now (state c.load_pair.new.space.table) c.load_pair.new.words (part us 0) (part ss 0) =
          rw (← c.split_at.ensures.front, ← c.split_at-2.ensures.front) pair.paired in
          let start = begins (M c.args.space.now.ring) _ _ _ _ _ _ us ss size paired (serves_in M ring₁ product.serves) L t in
          subst (λ (n : ℕ). Keeps (M c.args.space.now.ring) (state c.loop-u_i.space.table) c.loop-u_i.words 2 (products us ss n) 7) last
          (keeps_in M ring₂ (loop.4 (keeps_in M (sym ring₂) start)));
    }
