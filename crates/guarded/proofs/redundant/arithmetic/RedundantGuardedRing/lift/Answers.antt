use Rattle.std.proofs.Common.{◌≡◌, ℕ, ◌+◌, ◌*◌, ◌/◌, ◌%◌, ◌<◌, ap, ◌∙◌, arith}
use Rattle.std.proofs.lemmas.Bool.{lt-ltb}
use Rattle.algebra.specs.Remainders.{joined}
use Rattle.algebra.proofs.Remainders.{joined_below, joined_plain, joined_guard, word_mod, word_div, word_below}
use Rattle.guarded.specs.ModuliLemmas.{known_above}
use Rattle.guarded.proofs.redundant.arithmetic.RedundantGuardedRing.lift.Goals as goal

pub returns : goal.returns
returns c =
    let s = c.args.self.now in
    let above : 3329 < s.check.p.number = known_above s.check.p.number s.check.known in
    let x : ℕ = joined 3329 s.check.p.number s.check.inverse c.args.s c.args.c in
    let low : x < 3329 * s.check.p.number = joined_below 3329 s.check.p.number s.check.inverse c.args.s c.args.c c.requires.coefficient (omega arith) in
    let is : (c.args.s + 3329 * c.remainder-part.result) + s.n * c.args.k ≡ x + 3329 * s.check.p.number * c.args.k =
    ap (λ (y : ℕ). (c.args.s + 3329 * y) + s.n * c.args.k) c.remainder-part.ensures ∙ ap (λ (y : ℕ). x + y * c.args.k) s.joint in
    let means : ((c.args.s + 3329 * c.remainder-part.result) + s.n * c.args.k) % (3329 * s.check.p.number) ≡ x =
    ap (λ (y : ℕ). y % (3329 * s.check.p.number)) is ∙ word_mod (3329 * s.check.p.number) s.t x c.args.k low in
    record {
      element = lt-ltb _ _ (rw is (word_below (3329 * s.check.p.number) s.t x c.args.k low c.requires.number));
      coefficient = ap (λ (y : ℕ). y % 3329) means ∙ joined_plain 3329 s.check.p.number s.check.inverse c.args.s c.args.c c.requires.coefficient;
      check = ap (λ (y : ℕ). y % s.check.p.number) means ∙ joined_guard 3329 s.check.p.number s.check.inverse c.args.s c.args.c (omega arith) (omega (arith, c.requires.coefficient)) c.requires.check s.check.inverts;
      number = ap (λ (y : ℕ). y / (3329 * s.check.p.number)) is ∙ word_div (3329 * s.check.p.number) s.t x c.args.k low;
    }
