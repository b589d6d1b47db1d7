-- Registers whose words were lifted, one after another.
use Rattle.std.proofs.Common.{◌≡◌, ℕ, ◌+◌, ◌*◌, ◌%◌, ◌<◌, List, map, length, get_or, sym, ap, ◌∙◌, arith}
use mathlib.Core.Option.{none}
use lib.ListN.{length-map}
use Rattle.std.proofs.lemmas.List.{get_or-map}
use Rattle.rings.specs.Refusals.{flaw}
use Rattle.algebra.proofs.Remainders.{known_by}
use Rattle.guarded.specs.Model.{Guarded, Lawful, Lifted}
use Rattle.histories.specs.Calls.{part}
use Rattle.histories.specs.Serves.{Meaning, Numbered}
use Rattle.histories.proofs.Basics.{part_size}
use Rattle.registers.specs.Rows.{Holding}
use Rattle.registers.proofs.Rows.{Filled, part_within, part_at}
use Rattle.registers.proofs.Reading.{no_flaw, sound_at}
use Rattle.registers.proofs.Lists.{map_at, map_map_at}

module _ {W : Type 0} (G : Guarded W) where
  -- the word at place k is lift(x, c, byte)
  abbrev pub Placed : (xs cs bytes : List ℕ) (k : ℕ) → W → Type 0
  Placed xs cs bytes k v = Lifted G (get_or xs k 0) (get_or cs k 0) (get_or bytes k 0) v

  -- the word at place k is the element of the old word's meaning that has the number of the byte
  abbrev pub Renumbered : (old : List W) (r : ℕ) (bytes : List ℕ) (k : ℕ) → W → Type 0
  Renumbered old r bytes k v = (d : W) → Lifted G (G.meaning (get_or old (256 * r + k) d) % 3329) (G.meaning (get_or old (256 * r + k) d) % G.p) (get_or bytes k 0) v

  -- a word that was split and lifted again
  pub renumber : (old : List W) (r k : ℕ) (bytes : List ℕ) (x v : W) (s c : ℕ) → ((d : W) → x ≡ get_or old (256 * r + k) d) →
      s ≡ G.meaning x % 3329 → c ≡ G.meaning x % G.p → Lifted G s c (get_or bytes k 0) v → Renumbered old r bytes k v
  renumber old r k bytes x v s c e es ec l d = record {
    element = l.element;
    coefficient = l.coefficient ∙ es ∙ ap (λ (u : W). G.meaning u % 3329) (e d);
    check = l.check ∙ ec ∙ ap (λ (u : W). G.meaning u % G.p) (e d);
    number = l.number;
  }

  module _ (ws ws' : List W) (r : ℕ) (bytes : List ℕ) (size : length ws ≡ 2048) (known : r < 8) (many : length bytes ≡ 256) where
    pub holding : (xs cs : List ℕ) → length xs ≡ 256 → length cs ≡ 256 → Filled (256 * r) 256 (Placed xs cs bytes) ws ws' → Holding G xs cs bytes (part ws' r)
    holding xs cs sx sc f =
        let own = part_size ws' (f.size ∙ size) r known in
        let at = part_within r (Placed xs cs bytes) ws ws' f in
        record {
          numbered = record {
            size = own;
            elements = no_flaw G.element (part ws' r) (λ k d l. (at k d (omega arith)).element);
            numbers = map_at G.number (part ws' r) bytes (own ∙ sym many) (λ k d l. (at k d (omega arith)).number);
          };
          plain = map_map_at (λ y. y % 3329) G.meaning (part ws' r) xs (own ∙ sym sx) (λ k d l. (at k d (omega arith)).coefficient);
          check = map_map_at (λ y. y % G.p) G.meaning (part ws' r) cs (own ∙ sym sc) (λ k d l. (at k d (omega arith)).check);
        }

    module _ (law : Lawful G) (tested : flaw G.element (part ws r) ≡ none) (f : Filled (256 * r) 256 (Renumbered ws r bytes) ws ws') where
      own_size : length (part ws' r) ≡ 256
      own_size = part_size ws' (f.size ∙ size) r known

      at : (k : ℕ) (d : W) → k < length (part ws' r) → Renumbered ws r bytes k (get_or (part ws' r) k d)
      at k d l = part_within r (Renumbered ws r bytes) ws ws' f k d (omega (arith, own_size))

      sound : flaw G.element (part ws' r) ≡ none
      sound = no_flaw G.element (part ws' r) (λ k d l. (at k d l d).element)

      kept : (k : ℕ) (d : W) → k < length (part ws' r) → G.meaning (get_or (part ws' r) k d) ≡ get_or (map G.meaning (part ws r)) k 0
      kept k d l =
          let s : k < 256 = omega (arith, own_size) in
          let here = at k d l d in
          known_by G.p law.above law.prime _ _ (law.below _ here.element) (law.below _ (sound_at G.element ws r size known tested k d s)) here.coefficient here.check
          ∙ ap G.meaning (sym (part_at ws r k d s)) ∙ sym (get_or-map G.meaning (part ws r) k d 0 (omega (arith, part_size ws size r known)))

      pub renumbered_means : Meaning G (map G.meaning (part ws r)) (part ws' r)
      renumbered_means = record {
        size = own_size;
        elements = sound;
        means = map_at G.meaning (part ws' r) (map G.meaning (part ws r)) (own_size ∙ sym (length-map (part ws r) G.meaning ∙ part_size ws size r known)) kept;
      }

      pub renumbered_numbers : Numbered G bytes (part ws' r)
      renumbered_numbers = record {
        size = own_size;
        elements = sound;
        numbers = map_at G.number (part ws' r) bytes (own_size ∙ sym many) (λ k d l. (at k d l d).number);
      }
