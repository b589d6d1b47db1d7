-- The field that stands at an offset.
use Rattle.std.specs.Prelude.{◌≡◌, ℕ, ◌+◌, ◌≤◌, List, length, slice_index}
use Rattle.std.proofs.Math.Option.{none}
use Rattle.sheet.specs.declared.kind.Kind.{Kind}
use Rattle.sheet.specs.declared.kind.Kind.TheVariants as is
use Rattle.sheet.specs.declared.field.Field.{Field}
use Rattle.sheet.specs.declared.field.Field.TheVariants.{Redundant, Pair, Load, LoadHat, Forward, Inverse, Add, Subtract, Multiply, Refresh, Clear, Release, Strike}
use Rattle.sheet.specs.Bytes.{Part, two_at, four_at}
use Rattle.sheet.specs.Kinds.{letter, least, most}
use Rattle.sheet.specs.Flaws.{tag_at, size_at, flaw_at}

-- a sound header: the kind and the content's length of the field at an offset
pub record Headed (sheet : List ℕ) (at : ℕ) (k : Kind) (n : ℕ) : Type 0 where
  pub sound : flaw_at sheet at ≡ none
  pub tag : letter k ≡ tag_at sheet at
  pub size : n ≡ size_at sheet at
  pub inside : at + 3 + n ≤ length sheet
  pub short : length sheet ≤ 32768
  pub enough : least k ≤ n
  pub limit : n ≤ most k

-- a field's kind and letter
abbrev pub kind : Field → Kind
kind (Redundant p t) = is.Redundant
kind (Pair p) = is.Pair
kind (Load l) = is.Load
kind (LoadHat l) = is.LoadHat
kind (Forward l) = is.Forward
kind (Inverse l) = is.Inverse
kind (Add o) = is.Add
kind (Subtract o) = is.Subtract
kind (Multiply o) = is.Multiply
kind (Refresh register bytes) = is.Refresh
kind (Clear register) = is.Clear
kind (Release register) = is.Release
kind (Strike position word) = is.Strike

abbrev pub mark : Field → ℕ
mark f = letter (kind f)

-- the length of its content
abbrev pub width : Field → ℕ
width (Redundant p t) = 3
width (Pair p) = 2
width (Load l) = 771
width (LoadHat l) = 771
width (Forward l) = 1 + length l.masks.now
width (Inverse l) = 1 + length l.masks.now
width (Add o) = 3
width (Subtract o) = 3
width (Multiply o) = 3
width (Refresh register bytes) = 257
width (Clear register) = 1
width (Release register) = 1
width (Strike position word) = 6

-- a field's numbers and borrowed bytes are those of the sheet from its content's offset on
abbrev pub Loaded : List ℕ → ℕ → ℕ → ℕ → List ℕ → List ℕ → Type 0
Loaded sheet from register c coefficients bytes =
    (register ≡ slice_index sheet from) × (c ≡ two_at sheet (from + 1))
    × Part sheet (from + 3) 512 coefficients × Part sheet (from + 515) 256 bytes

abbrev pub Masked : List ℕ → ℕ → ℕ → List ℕ → Type 0
Masked sheet from register masks = (register ≡ slice_index sheet from) × (length masks ≤ 128) × Part sheet (from + 1) (length masks) masks

abbrev pub Three : List ℕ → ℕ → ℕ → ℕ → ℕ → Type 0
Three sheet from d a b = (d ≡ slice_index sheet from) × (a ≡ slice_index sheet (from + 1)) × (b ≡ slice_index sheet (from + 2))

abbrev pub Content : List ℕ → ℕ → Field → Type 0
Content sheet from (Redundant p t) = (p ≡ two_at sheet from) × (t ≡ slice_index sheet (from + 2))
Content sheet from (Pair p) = p ≡ two_at sheet from
Content sheet from (Load l) = Loaded sheet from l.register l.c l.coefficients.now l.bytes.now
Content sheet from (LoadHat l) = Loaded sheet from l.register l.c l.coefficients.now l.bytes.now
Content sheet from (Forward l) = Masked sheet from l.register l.masks.now
Content sheet from (Inverse l) = Masked sheet from l.register l.masks.now
Content sheet from (Add o) = Three sheet from o.d o.a o.b
Content sheet from (Subtract o) = Three sheet from o.d o.a o.b
Content sheet from (Multiply o) = Three sheet from o.d o.a o.b
Content sheet from (Refresh register bytes) = (register ≡ slice_index sheet from) × Part sheet (from + 1) 256 bytes.now
Content sheet from (Clear register) = register ≡ slice_index sheet from
Content sheet from (Release register) = register ≡ slice_index sheet from
Content sheet from (Strike position word) = (position ≡ two_at sheet from) × (word ≡ four_at sheet (from + 2))

-- the field that stands at an offset of the sheet, and the offset after it
pub record Reads (sheet : List ℕ) (at : ℕ) (f : Field) (next : ℕ) : Type 0 where
  pub tag : tag_at sheet at ≡ mark f
  pub size : size_at sheet at ≡ width f
  pub after : next ≡ at + 3 + width f
  pub inside : next ≤ length sheet
  pub content : Content sheet (at + 3) f
