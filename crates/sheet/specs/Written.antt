-- The bytes of a field as a sheet holds them: tag, length, content.
use Rattle.std.specs.Prelude.{◌≡◌, ℕ, ◌+◌, ◌/◌, ◌%◌, ◌≤◌, true, List, [], ◌∷◌, ◌++◌, length, Ok, Err, Result}
use Rattle.rings.specs.declared.refusal.Refusal.{Refusal}
use Rattle.sheet.specs.declared.field.Field.{Field}
use Rattle.sheet.specs.declared.field.Field.TheVariants.{Redundant, Pair, Load, LoadHat, Forward, Inverse, Add, Subtract, Multiply, Refresh, Clear, Release, Strike}
use Rattle.sheet.specs.Bytes.{part}
use Rattle.sheet.specs.Kinds.{most, placed}
use Rattle.sheet.specs.Reads.{kind, mark, width}

-- a number in two bytes, the higher first
abbrev pub in_two : ℕ → List ℕ
in_two v = v / 256 ∷ v % 256 ∷ []

-- a field's content, and the whole field
abbrev pub body : Field → List ℕ
body (Redundant p t) = in_two p ++ (t ∷ [])
body (Pair p) = in_two p
body (Load l) = l.register ∷ in_two l.c ++ l.coefficients.now ++ l.bytes.now
body (LoadHat l) = l.register ∷ in_two l.c ++ l.coefficients.now ++ l.bytes.now
body (Forward l) = l.register ∷ l.masks.now
body (Inverse l) = l.register ∷ l.masks.now
body (Add o) = o.d ∷ o.a ∷ o.b ∷ []
body (Subtract o) = o.d ∷ o.a ∷ o.b ∷ []
body (Multiply o) = o.d ∷ o.a ∷ o.b ∷ []
body (Refresh register bytes) = register ∷ bytes.now
body (Clear register) = register ∷ []
body (Release register) = register ∷ []
body (Strike position word) = in_two position ++ in_two (word / 65536) ++ in_two (word % 65536)

abbrev pub written : Field → List ℕ
written f = mark f ∷ in_two (width f) ++ body f

-- a field is written at an offset of the sheet, with no more masks than a layer takes, and may stand there
pub record WrittenAt (sheet : List ℕ) (at : ℕ) (f : Field) : Type 0 where
  pub short : length sheet ≤ 32768
  pub inside : at + 3 + width f ≤ length sheet
  pub few : width f ≤ most (kind f)
  pub stands : placed (kind f) at ≡ true
  pub bytes : part sheet at (3 + width f) ≡ written f

-- a field that is written at the offset is the one that was read there; where a field is refused, none is written
abbrev pub Heard : List ℕ → ℕ → Result (Field × ℕ) Refusal → Type 0
Heard sheet at (Ok read) = (f : Field) → WrittenAt sheet at f → (written read.0 ≡ written f) × (read.1 ≡ at + 3 + width f)
Heard sheet at (Err e) = (f : Field) → WrittenAt sheet at f → ⊥
