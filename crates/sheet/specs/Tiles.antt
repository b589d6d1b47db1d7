-- The fields of a sheet, back to back from its start.
use Rattle.std.specs.Prelude.{◌≡◌, ℕ, zero, suc, ◌+◌, ◌*◌, ◌<◌, ◌≤◌, ◌≢◌, ◌⊎◌, List, [], ◌++◌, length, take, Some, None, Ok, Err, Option, Result}
use Rattle.std.proofs.Math.Option.{none, some}
use Rattle.rings.specs.declared.refusal.Refusal.{Refusal}
use Rattle.sheet.specs.declared.field.Field.{Field}
use Rattle.sheet.specs.declared.field.Placed.{Placed}
use Rattle.sheet.specs.Bytes.{part}
use Rattle.sheet.specs.Flaws.{size_at, after, flaw_at}
use Rattle.sheet.specs.Reads.{width, Reads}
use Rattle.sheet.specs.Written.{written}

-- the offset of field n
unfoldable pub offset : List ℕ → ℕ → ℕ
offset sheet zero = 0
offset sheet (suc n) = after sheet (offset sheet n)

-- the bytes of the first n fields, one after the other
unfoldable pub laid : List ℕ → ℕ → List ℕ
laid sheet zero = []
laid sheet (suc n) = laid sheet n ++ part sheet (offset sheet n) (3 + size_at sheet (offset sheet n))

-- one step of a reader: the sheet's end; a field, and the offset after it; or a refusal
abbrev pub Next : List ℕ → ℕ → Option (Result Placed Refusal) → ℕ → Type 0
Next sheet at None next = (at ≡ length sheet) × (next ≡ at)
Next sheet at (Some (Ok f)) next = (at ≢ length sheet) × (flaw_at sheet at ≡ none) × (f.at ≡ at) × Reads sheet at f.field next
Next sheet at (Some (Err e)) next = (at ≢ length sheet) × (flaw_at sheet at ≡ some e) × (next ≡ at)

-- a sound field, number k of the sheet, up to the offset of the next
pub record Tile (sheet : List ℕ) (k : ℕ) : Type 0 where
  pub field : Field
  pub sound : flaw_at sheet (offset sheet k) ≡ none
  pub reads : Reads sheet (offset sheet k) field (offset sheet (suc k))
  pub bytes : part sheet (offset sheet k) (3 + width field) ≡ written field

-- a reader that has read the sheet's first n fields stands after them
pub record Reached (sheet : List ℕ) (n at : ℕ) : Type 0 where
  pub place : at ≡ offset sheet n
  pub tiles : (k : ℕ) → k < n → Tile sheet k
  pub within : at ≤ length sheet
  pub pace : 3 * n ≤ at

-- where the fields end: with the sheet, or at a refusal of what has to follow, which in an empty sheet is the first field
abbrev pub Ends : List ℕ → ℕ → Option Refusal → Type 0
Ends sheet at None = (0 < at) × (at ≡ length sheet)
Ends sheet at (Some e) = ((at ≡ 0) ⊎ (at < length sheet)) × (flaw_at sheet at ≡ some e)

-- n sound fields stand back to back from the sheet's start; then it ends, or a field is refused
pub record Tiled (sheet : List ℕ) (n : ℕ) (end : Option Refusal) : Type 0 where
  pub tiles : (k : ℕ) → k < n → Tile sheet k
  pub ends : Ends sheet (offset sheet n) end

-- the fields' bytes are the sheet's own, all of them or those before the refused field
abbrev pub Covers : List ℕ → ℕ → Option Refusal → Type 0
Covers sheet n None = laid sheet n ≡ sheet
Covers sheet n (Some e) = laid sheet n ≡ take (offset sheet n) sheet

-- a sheet is tiled in one way: so many fields, these fields, so ended
abbrev pub OneTiling : List ℕ → Type 0
OneTiling sheet =
    (n m : ℕ) (e f : Option Refusal) (s : Tiled sheet n e) (t : Tiled sheet m f)
    → (n ≡ m) × (e ≡ f) × ((k : ℕ) (g : k < n) (h : k < m) → written (s.tiles k g).field ≡ written (t.tiles k h).field)
