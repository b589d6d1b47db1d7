-- What a field, or a whole sheet, is refused for.
use Rattle.std.specs.Prelude.{ℕ, ◌+◌, Bool, false, ◌&&◌, List, [], ◌∷◌, length, Some, None, nat_le, nat_lt, slice_index}
use Rattle.std.proofs.Math.Option.{Option}
use Rattle.std.specs.declared.option.Option as code
use Rattle.rings.specs.declared.refusal.Refusal.{Refusal}
use Rattle.rings.specs.declared.refusal.Refusal.TheVariants.{Cut, Tag, Size, Long}
use Rattle.rings.specs.Refusals.{Check, test, first}
use Rattle.sheet.specs.declared.kind.Kind.{Kind}
use Rattle.sheet.specs.Bytes.{two_at}
use Rattle.sheet.specs.Kinds.{kind_of, placed, least, most}

-- the tag of the field at an offset, the length that its header says, and the offset after it
abbrev pub tag_at : List ℕ → ℕ → ℕ
tag_at sheet at = slice_index sheet at

abbrev pub size_at : List ℕ → ℕ → ℕ
size_at sheet at = two_at sheet (at + 1)

abbrev pub after : List ℕ → ℕ → ℕ
after sheet at = at + 3 + size_at sheet at

-- a tag that is known and stands where it may
abbrev pub stands : code.Option Kind → ℕ → Bool
stands None at = false
stands (Some k) at = placed k at

-- a length that is the tag's
abbrev pub fits : code.Option Kind → ℕ → Bool
fits None n = false
fits (Some k) n = nat_le (least k) n && nat_le n (most k)

-- the checks of the field at an offset, in their order
abbrev pub field_checks : List ℕ → ℕ → List (Check Refusal)
field_checks sheet at =
    test (nat_le (length sheet) 32768) Long
    ∷ test (nat_le (at + 3) (length sheet)) (Cut at)
    ∷ test (nat_le (after sheet at) (length sheet)) (Cut at)
    ∷ test (stands (kind_of (tag_at sheet at)) at) (Tag at)
    ∷ test (fits (kind_of (tag_at sheet at)) (size_at sheet at)) (Size at)
    ∷ []

-- the first flaw of the field at an offset
unfoldable pub flaw_at : List ℕ → ℕ → Option Refusal
flaw_at sheet at = first (field_checks sheet at)

-- what a sheet is refused for before its first field is looked at
abbrev pub refused_whole : List ℕ → Option Refusal
refused_whole sheet = first (test (nat_le (length sheet) 32768) Long ∷ test (nat_lt 0 (length sheet)) (Cut 0) ∷ [])
