-- A register whose words are what an operation makes of the words of two registers, place by place.
use Rattle.std.proofs.Common.{◌≡◌, ℕ, zero, suc, pred, ◌+◌, ◌-◌, ◌*◌, ◌%◌, ◌<◌, Bool, true, List, map, length, get_or, sym, refl, ap, ◌∙◌, arith}
use mathlib.Core.Option.{none}
use Rattle.std.proofs.lemmas.List.{get_or-map}
use Rattle.rings.specs.Refusals.{flaw}
use Rattle.algebra.specs.Congruence.{Same}
use Rattle.algebra.specs.Polynomials.{coefficient, listed}
use Rattle.algebra.proofs.Modular.{same_of, same_sym, same_mod, same_sub, ◌⨾◌}
use Rattle.guarded.specs.Model.{Guarded, Lawful}
use Rattle.histories.specs.Operations.{neg}
use Rattle.histories.specs.Calls.{part, meanings}
use Rattle.histories.specs.Serves.{Meaning}
use Rattle.histories.proofs.Basics.{part_size}
use Rattle.registers.specs.Rows.{Combined}
use Rattle.registers.proofs.Rows.{part_at}
use Rattle.registers.proofs.Reading.{sound_at}
use Rattle.registers.proofs.Meanings.{some_word, meaning_by}

-- w is an element that means what h makes of the meanings of u and v
pub record Joins {W : Type 0} (element : W → Bool) (meaning : W → ℕ) (h : ℕ → ℕ → ℕ) (u v w : W) : Type 0 where
  pub stays : element w ≡ true
  pub means : meaning w ≡ h (meaning u) (meaning v)

pub same_sum : (m x y : ℕ) → x < m → y < m → Same (pred m) (x + y) ((x + y) % m)
same_sum zero x y a b = absurd (omega arith)
same_sum (suc n) x y a b = same_sym (same_mod (x + y))

pub same_difference : (m x y : ℕ) → x < m → y < m → Same (pred m) (x + pred m * y) ((x + (m - y)) % m)
same_difference zero x y a b = absurd (omega arith)
same_difference (suc n) x y a b = same_sym (same_mod (x + (suc n - y)) ⨾ same_sub x y (omega arith))

module _ {W : Type 0} (G : Guarded W) (law : Lawful G) (ws ws' : List W) (d a b : ℕ) (size : length ws ≡ 2048) (kd : d < 8) (ka : a < 8) (kb : b < 8)
    (left : flaw G.element (part ws a) ≡ none) (right : flaw G.element (part ws b) ≡ none) where
  -- the meaning at place k of a register
  abbrev at : (r k : ℕ) → ℕ
  at r k = coefficient (map G.meaning (part ws r)) k

  at_is : (r : ℕ) → r < 8 → (k : ℕ) (e : W) → k < 256 → at r k ≡ G.meaning (get_or ws (256 * r + k) e)
  at_is r h k e l = get_or-map G.meaning (part ws r) k e 0 (omega (arith, part_size ws size r h)) ∙ ap G.meaning (part_at ws r k e l)

  at_below : (r : ℕ) → r < 8 → flaw G.element (part ws r) ≡ none → (k : ℕ) → k < 256 → at r k < 3329 * G.p
  at_below r h t k l = rw (at_is r h k (some_word G law) l) (law.below _ (sound_at G.element ws r size h t k (some_word G law) l))

  -- where h leaves what `raw` leaves, modulo 3329 p as modulo any number
  pub joined : (m : ℕ) → m ≡ 3329 * G.p → (raw h : ℕ → ℕ → ℕ → ℕ) → ((n x y : ℕ) → x < n → y < n → Same (pred n) (raw n x y) (h n x y)) →
      Combined (Joins G.element G.meaning (h m)) d a b ws ws' → Meaning G (listed (neg (meanings G)) (λ k. raw (3329 * G.p) (at a k) (at b k))) (part ws' d)
  joined m joint raw h same f =
      meaning_by G law (λ k. raw (3329 * G.p) (at a k) (at b k)) (part ws' d) (part_size ws' (f.only.size ∙ size) d kd)
      (λ k e l. rw (part_at ws' d k e l) (f.made k e l).stays)
      (λ k e l.
      let own : G.meaning (get_or (part ws' d) k e) ≡ h (3329 * G.p) (at a k) (at b k) =
      ap G.meaning (part_at ws' d k e l) ∙ (f.made k e l).means ∙ rw (joint, at_is a ka k e l, at_is b kb k e l) refl in
      same (3329 * G.p) (at a k) (at b k) (at_below a ka left k l) (at_below b kb right k l) ⨾ same_of (sym own))
