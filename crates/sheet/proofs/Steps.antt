-- The steps of a reader, and what it has read at its end.
use Rattle.std.proofs.Common.{◌≡◌, ℕ, zero, suc, ◌+◌, ◌<◌, ◌⊎◌, List, length, take, Some, sym, refl, ap, ◌∙◌, subst, add-one, arith, take_all, take-add, below_none, below_more}
use mathlib.Core.Option.{none, some}
use Rattle.rings.specs.declared.refusal.Refusal.{Refusal}
use Rattle.sheet.specs.declared.field.Field.{Field}
use Rattle.sheet.specs.Bytes.{part}
use Rattle.sheet.specs.Flaws.{size_at, after, flaw_at}
use Rattle.sheet.specs.Reads.{width, Reads}
use Rattle.sheet.specs.Written.{written}
use Rattle.sheet.specs.Tiles.{offset, laid, Tile, Reached, Tiled}
use Rattle.sheet.proofs.Spelling.{Bytes, spelled}

-- a field that was read ends where its header says
onward : (sheet : List ℕ) (at next : ℕ) (f : Field) → Reads sheet at f next → next ≡ after sheet at
onward sheet at next f r = r.after ∙ ap (λ n. at + 3 + n) (sym r.size)

-- the field that a step reads is the sheet's field n
tile : (sheet : List ℕ) → Bytes sheet → (n at next : ℕ) (f : Field) → at ≡ offset sheet n → flaw_at sheet at ≡ none → Reads sheet at f next → Tile sheet n
unfolding offset
tile sheet b n at next f p s r = record {
  field = f;
  sound = rw (sym p) s;
  reads = subst (λ m. Reads sheet m f (after sheet m)) p (subst (λ m. Reads sheet at f m) (onward sheet at next f r) r);
  bytes = subst (λ m. part sheet m (3 + width f) ≡ written f) p (spelled sheet b at next f r);
}

pub at_start : (sheet : List ℕ) → Reached sheet 0 0
unfolding offset
at_start sheet = record { place = refl; tiles = below_none _; within = omega arith; pace = omega arith }

pub a_field_on : (sheet : List ℕ) → Bytes sheet → (n at next : ℕ) (f : Field) → Reached sheet n at → flaw_at sheet at ≡ none → Reads sheet at f next
    → Reached sheet (n + 1) next
unfolding offset
a_field_on sheet b n at next f h s r = record {
  place = rw (add-one n) (onward sheet at next f r ∙ ap (after sheet) h.place);
  tiles = below_more (Tile sheet) n h.tiles (tile sheet b n at next f h.place s r);
  within = r.inside;
  pace = omega (arith, h.pace, r.after);
}

-- the first n fields' bytes are the sheet's, up to the offset after them
pub lies : (sheet : List ℕ) (n : ℕ) → laid sheet n ≡ take (offset sheet n) sheet
unfolding laid offset
lies sheet zero = refl
lies sheet (suc n) =
    rw (lies sheet n) (sym (take-add (offset sheet n) (3 + size_at sheet (offset sheet n)) sheet) ∙ ap (λ k. take k sheet) (omega arith))

-- a reader at the sheet's end has read all of it
pub whole : (sheet : List ℕ) (n at : ℕ) → Reached sheet n at → at ≡ length sheet → laid sheet n ≡ sheet
whole sheet n at h e = let p = h.place in lies sheet n ∙ take_all (offset sheet n) sheet (omega (arith, p))

pub stopped : (sheet : List ℕ) (n at : ℕ) (e : Refusal) → Reached sheet n at → (at ≡ 0) ⊎ (at < length sheet) → flaw_at sheet at ≡ some e → Tiled sheet n (Some e)
stopped sheet n at e h d f = record { tiles = h.tiles; ends = subst (λ m. ((m ≡ 0) ⊎ (m < length sheet)) × (flaw_at sheet m ≡ some e)) h.place (d, f) }
