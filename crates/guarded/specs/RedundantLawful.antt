-- The words below 3329 * p * t are a guarded ring.
use Rattle.std.specs.Prelude.{◌≡◌, ℕ, ◌+◌, ◌*◌, ◌<◌, ◌≤◌, true}
use Rattle.std.proofs.Common.{arith, mod-lt}
use Rattle.std.proofs.lemmas.Bool.{lt-ltb, ltb-true}
use Rattle.algebra.proofs.Remainders.{below_times, only_word, word_mod, word_div, word_below}
use Rattle.guarded.specs.Model.{Lawful}
use Rattle.guarded.specs.Moduli.{is_check}
use Rattle.guarded.specs.RedundantRing.{redundant_model}
use Rattle.guarded.specs.ModuliLemmas.{known_above, known_below, known_prime, known_turned, known_coefficient}

pub redundant_lawful : (p t : ℕ) → is_check p ≡ true → 1 ≤ t → t ≤ 167 →
    Lawful (redundant_model p t)
redundant_lawful p t h one most =
    let above : 3329 < p = known_above p h in
    let small : p < 12290 = known_below p h in
    let some : 0 < 3329 * p = omega arith in
    record {
      above = above;
      fits = omega arith;
      prime = known_prime p h;
      least = one;
      most = omega arith;
      halfway = known_turned p h;
      coefficient_root = known_coefficient p h;
      below = λ v e. mod-lt v some;
      numbered = λ v e. below_times (3329 * p) t v (ltb-true _ _ e);
      exists = λ x k l i. (x + 3329 * p * k, (lt-ltb _ _ (word_below (3329 * p) t x k l i), (word_mod (3329 * p) t x k l, word_div (3329 * p) t x k l)));
      unique = λ u v e f m k. only_word (3329 * p) t u v m k;
    }
