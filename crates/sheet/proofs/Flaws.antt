-- The first flaw of a field, from what its reader has tested.
use Rattle.std.proofs.Common.{◌≡◌, ℕ, ◌+◌, ◌<◌, ◌≤◌, true, false, cond, List, length, Some, None, Option, sym, ◌∙◌, arith}
use mathlib.Core.Option.{none, some}
use Rattle.std.proofs.lemmas.Bool.{le-leb, lt-leb, cond-true, cond-false}
use Rattle.rings.specs.declared.refusal.Refusal.TheVariants.{Cut, Tag, Size, Long}
use Rattle.sheet.specs.declared.kind.Kind.{Kind}
use Rattle.sheet.specs.Kinds.{kind_of, placed}
use Rattle.sheet.specs.Flaws.{tag_at, size_at, after, stands, fits, flaw_at}

pub long : (sheet : List ℕ) (at : ℕ) → 32768 < length sheet → flaw_at sheet at ≡ some Long
unfolding flaw_at
long sheet at h = rw (lt-leb (length sheet) 32768 h)

pub short : (sheet : List ℕ) (at : ℕ) → length sheet ≤ 32768 → length sheet < at + 3 → flaw_at sheet at ≡ some (Cut at)
unfolding flaw_at
short sheet at l h = rw (le-leb (length sheet) 32768 l, lt-leb (at + 3) (length sheet) h)

pub past : (sheet : List ℕ) (at : ℕ) → length sheet ≤ 32768 → at + 3 ≤ length sheet → length sheet < after sheet at
    → flaw_at sheet at ≡ some (Cut at)
unfolding flaw_at
past sheet at l h o = rw (le-leb (length sheet) 32768 l, le-leb (at + 3) (length sheet) h, lt-leb (after sheet at) (length sheet) o)

-- with its bytes there, a field's flaw is that of its tag and length
there : (sheet : List ℕ) (at : ℕ) → length sheet ≤ 32768 → after sheet at ≤ length sheet
    → (o : Option Kind) → o ≡ kind_of (tag_at sheet at)
    → flaw_at sheet at ≡ cond (stands o at) (cond (fits o (size_at sheet at)) none (some (Size at))) (some (Tag at))
unfolding flaw_at
there sheet at l i o e =
    let h : at + 3 ≤ length sheet = omega arith in
    rw (le-leb (length sheet) 32768 l, le-leb (at + 3) (length sheet) h, le-leb (after sheet at) (length sheet) i, e)

pub unknown : (sheet : List ℕ) (at : ℕ) → length sheet ≤ 32768 → after sheet at ≤ length sheet
    → None ≡ kind_of (tag_at sheet at) → flaw_at sheet at ≡ some (Tag at)
unknown sheet at l i e = there sheet at l i None e

pub misplaced : (sheet : List ℕ) (at : ℕ) → length sheet ≤ 32768 → after sheet at ≤ length sheet
    → (k : Kind) → Some k ≡ kind_of (tag_at sheet at) → false ≡ placed k at → flaw_at sheet at ≡ some (Tag at)
misplaced sheet at l i k e p = there sheet at l i (Some k) e ∙ cond-false (placed k at) _ _ (sym p)

pub misfit : (sheet : List ℕ) (at : ℕ) → length sheet ≤ 32768 → after sheet at ≤ length sheet
    → (k : Kind) → Some k ≡ kind_of (tag_at sheet at) → true ≡ placed k at → false ≡ fits (Some k) (size_at sheet at) → flaw_at sheet at ≡ some (Size at)
misfit sheet at l i k e p f = there sheet at l i (Some k) e ∙ cond-true (placed k at) _ _ (sym p) ∙ cond-false (fits (Some k) (size_at sheet at)) _ _ (sym f)

pub fitting : (sheet : List ℕ) (at : ℕ) → length sheet ≤ 32768 → after sheet at ≤ length sheet
    → (k : Kind) → Some k ≡ kind_of (tag_at sheet at) → true ≡ placed k at → true ≡ fits (Some k) (size_at sheet at) → flaw_at sheet at ≡ none
fitting sheet at l i k e p f = there sheet at l i (Some k) e ∙ cond-true (placed k at) _ _ (sym p) ∙ cond-true (fits (Some k) (size_at sheet at)) _ _ (sym f)
