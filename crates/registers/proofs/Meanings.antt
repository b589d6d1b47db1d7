-- 256 elements whose meanings are a list of numbers modulo 3329 p.
use Rattle.std.proofs.Common.{◌≡◌, ℕ, ◌*◌, ◌<◌, true, List, map, length, get_or, sym, arith}
use Rattle.std.proofs.lemmas.List.{get_or-map}
use Rattle.algebra.specs.Congruence.{Same}
use Rattle.algebra.specs.Polynomials.{listed}
use Rattle.algebra.proofs.Modular.{same_of, ◌⨾◌}
use Rattle.algebra.proofs.Lists.{listed_is}
use Rattle.guarded.specs.Model.{Guarded, Lawful}
use Rattle.histories.specs.Operations.{neg}
use Rattle.histories.specs.Calls.{meanings}
use Rattle.histories.specs.Serves.{Meaning}
use Rattle.histories.proofs.Basics.{map_polynomial, below_pred}
use Rattle.registers.proofs.Reading.{no_flaw}

module _ {W : Type 0} (G : Guarded W) (law : Lawful G) where
  -- some word, as a default
  pub some_word : W
  some_word = (law.exists 0 0 (omega (arith, law.above)) (omega (arith, law.least))).0

  pub meaning_by : (F : ℕ → ℕ) (vs : List W) → length vs ≡ 256 → ((k : ℕ) (e : W) → k < 256 → G.element (get_or vs k e) ≡ true) →
      ((k : ℕ) (e : W) → k < 256 → Same (neg (meanings G)) (F k) (G.meaning (get_or vs k e))) → Meaning G (listed (neg (meanings G)) F) vs
  meaning_by F vs size sound same = record {
    size = size;
    elements = no_flaw G.element vs (λ k e l. sound k e (omega arith));
    means =
        sym (listed_is F (map G.meaning vs)
        (map_polynomial (neg (meanings G)) G.meaning vs size (λ k e l. below_pred (3329 * G.p) _ (law.below _ (sound k e (omega arith)))))
        (λ k l. same k some_word l ⨾ same_of (sym (get_or-map G.meaning vs k some_word 0 (omega arith)))));
  }
