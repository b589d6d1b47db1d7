-- A transform in a guarded ring: its remainders by 3329 are the plain transform, those by the check modulus the transform of zeros.
use Rattle.std.proofs.Common.{◌≡◌, ℕ, suc, ◌+◌, ◌*◌, ◌%◌, ◌^◌, ◌<◌, List, length, get_or, set, sym, refl, ap, ◌∙◌, subst, mod-lt, mod-eq_of_lt, arith, lit<, get_or-set_other, get_or-set_same}
use mathlib.Core.Option.{none}
use native.Mathlib.Decide.{dec_lt}
use Rattle.std.proofs.lemmas.List.{get_or-map, get_or_default}
use Rattle.std.proofs.lemmas.Bool.{lt-ltb}
use Rattle.algebra.specs.Congruence.{Same}
use Rattle.algebra.specs.Layers.{ntt}
use Rattle.algebra.specs.Polynomials.{coefficient}
use Rattle.algebra.proofs.Modular.{same_of, same_mod, same_refl, same_by, ◌⨾◌}
use Rattle.algebra.proofs.Linear.{ntt_zero}
use Rattle.algebra.proofs.Reduction.{same_divides, ntt_reduces}
use Rattle.rings.specs.Refusals.{flaw, below}
use Rattle.engine.specs.Rows.{Elements, held}
use Rattle.engine.specs.Steps.{Agrees}
use Rattle.engine.proofs.Layering.{half_turn}
use Rattle.guarded.specs.Model.{Guarded, Lawful, Lifted}
use Rattle.transform.specs.Results.{Transformed, WordsHold}
use Rattle.transform.proofs.Written.{transformed_at}

-- one place more of a row is written
pub written_more : {W : Type 0} (P : ℕ → W → Type 0) (i : ℕ) (ws : List W) (x : W) → i < length ws →
    ((k : ℕ) (d : W) → k < i → P k (get_or ws k d)) → P i x → (k : ℕ) (d : W) → k < i + 1 → P k (get_or (set ws i x) k d)
written_more P i ws x h before here k d l = elim (dec_lt k i) [
  | yes u ↦ subst (P k) (sym (get_or-set_other ws i k x d (omega arith))) (before k d u)
  | no u ↦
      let e : k ≡ i = omega arith in
      rw e (subst (P i) (sym (get_or-set_same ws i x d h)) here)
]

module _ {W : Type 0} (G : Guarded W) (law : Lawful G) (q big : ℕ) (check : G.p ≡ suc q) (joint : suc big ≡ 3329 * suc q)
    (f : List ℕ) (size : length f ≡ 256) (range : flaw (below 3329) f ≡ none) (ws ws' : List W) (many : length ws ≡ 256) (many' : length ws' ≡ 256)
    (lifted : (k : ℕ) (d : W) → k < 256 → Lifted G (get_or f k 0) 0 0 (get_or ws k d))
    (transformed : Agrees big (held G.meaning ws') (ntt 7 big G.w (held G.meaning ws))) where
  turn : Same big (G.w ^ 128) big
  turn = half_turn (suc big) (G.w ^ 128) (subst (λ (m : ℕ). (G.w ^ 128 + 1) % m ≡ 0) (ap (λ (p : ℕ). 3329 * p) check ∙ sym joint) law.halfway)

  -- some word, as a default
  some : W
  some = (law.exists 0 0 (omega (arith, law.above)) (omega (arith, law.least))).0

  reads : (vs : List W) → length vs ≡ 256 → (j : ℕ) (d : W) → j < 256 → held G.meaning vs j ≡ G.meaning (get_or vs j d)
  reads vs e j d l = get_or-map G.meaning vs j d 0 (omega arith)

  agrees_with : Agrees 3328 (held G.meaning ws') (ntt 7 3328 17 (coefficient f))
  agrees_with j l =
      same_divides 3328 (suc q) big joint (transformed j l)
      ⨾ ntt_reduces 3328 big (suc q) 7 G.w 17 joint (omega arith) turn (record { same = refl }) (record { same = law.coefficient_root }) _ (coefficient f)
      (λ i h. same_of (reads ws many i some h) ⨾ record { same = (lifted i some h).coefficient ∙ sym (small i h) }) j l
    where
      small : (i : ℕ) → i < 256 → coefficient f i % 3329 ≡ coefficient f i
      small i h = ap (λ (x : ℕ). x % 3329) (sym (lifted i some h).coefficient) ∙ again ∙ (lifted i some h).coefficient
        where
          again : G.meaning (get_or ws i some) % 3329 % 3329 ≡ G.meaning (get_or ws i some) % 3329
          again = (same_mod {neg = 3328} (G.meaning (get_or ws i some))).same

  none_left : 0 % suc q ≡ 0
  none_left = mod-eq_of_lt (omega arith)

  vanishes : (j : ℕ) → j < 256 → Same q (held G.meaning ws' j) 0
  vanishes j l =
      let swapped : suc big ≡ suc q * 3329 = omega arith in
      let small : Same q (G.w ^ 128) q = same_divides q 3329 big swapped turn ⨾ same_by 0 3328 (omega arith) in
      same_divides q 3329 big swapped (transformed j l)
      ⨾ ntt_reduces q big 3329 7 G.w G.w swapped (omega arith) turn small same_refl _ _ (λ i h. same_refl) j l
      ⨾ ntt_zero 7 G.w (omega arith) _ (λ i h. same_of (reads ws many i some h) ⨾ record { same = ap (λ (p : ℕ). G.meaning (get_or ws i some) % p) (sym check) ∙ (lifted i some h).check ∙ sym none_left }) j l

  module _ (out : List ℕ) (room : length out ≡ 256) (all : Elements G.element ws')
      (split : (k : ℕ) → k < 256 → get_or out k 0 ≡ held G.meaning ws' k % 3329) where
    guarded_out : Transformed f out
    guarded_out =
        transformed_at f out size range room
        (record { at = λ k d l. lt-ltb _ _ (rw (get_or_default out k d 0 l, split k (omega arith)) (mod-lt _ (lit< tt))) })
        (λ j l. same_of (split j l) ⨾ same_mod {neg = 3328} (held G.meaning ws' j) ⨾ agrees_with j l)

    guarded_words : WordsHold G ws' out
    guarded_words = record {
      at = λ j d l. (
        G.number (get_or ws' j d),
        record {
          element = all.at j d (omega arith);
          coefficient = ap (λ (x : ℕ). x % 3329) (sym (reads ws' many' j d l)) ∙ sym (split j l);
          check = ap (λ (p : ℕ). G.meaning (get_or ws' j d) % p) check ∙ ap (λ (x : ℕ). x % suc q) (sym (reads ws' many' j d l)) ∙ (vanishes j l).same ∙ none_left;
          number = refl;
        },
      );
    }

    pub guarded_row : Transformed f out × WordsHold G ws' out
    guarded_row = (guarded_out, guarded_words)
