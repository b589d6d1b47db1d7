-- What a sheet is refused for as a whole is the flaw of its first field.
use Rattle.std.proofs.Common.{◌≡◌, ℕ, ◌<◌, ◌≤◌, ◌⊎◌, List, length, sym, ◌∙◌, inl, inr, arith}
use mathlib.Core.Option.{Option, none, some}
use Rattle.std.proofs.lemmas.Bool.{le-leb, lt-leb, lt-ltb, le-ltb, cases_lt}
use Rattle.rings.specs.declared.refusal.Refusal.{Refusal}
use Rattle.rings.specs.declared.refusal.Refusal.TheVariants.{Cut, Long}
use Rattle.sheet.specs.Flaws.{flaw_at, refused_whole}
use Rattle.sheet.proofs.Flaws.{long, short}

pub apart : (o : Option Refusal) (e : Refusal) → o ≡ none → o ≡ some e → ⊥
apart o e p q = let z : ◌≡◌ {A = ℕ} 0 1 = cc in omega arith

too_long : (sheet : List ℕ) → 32768 < length sheet → refused_whole sheet ≡ some Long
too_long sheet l = rw (lt-leb (length sheet) 32768 l)

empty : (sheet : List ℕ) → length sheet ≤ 32768 → length sheet ≤ 0 → refused_whole sheet ≡ some (Cut 0)
empty sheet l o = rw (le-leb (length sheet) 32768 l, le-ltb 0 (length sheet) o)

passed : (sheet : List ℕ) → length sheet ≤ 32768 → 0 < length sheet → refused_whole sheet ≡ none
passed sheet l o = rw (le-leb (length sheet) 32768 l, lt-ltb 0 (length sheet) o)

pub first_flaw : (sheet : List ℕ) (e : Refusal) → refused_whole sheet ≡ some e → flaw_at sheet 0 ≡ some e
first_flaw sheet e h = go (cases_lt 32768 (length sheet)) (cases_lt 0 (length sheet))
  where
    go : (32768 < length sheet) ⊎ (length sheet ≤ 32768) → (0 < length sheet) ⊎ (length sheet ≤ 0) → flaw_at sheet 0 ≡ some e
    go (inl l) o = long sheet 0 l ∙ sym (too_long sheet l) ∙ h
    go (inr l) (inl o) = absurd (apart (refused_whole sheet) e (passed sheet l o) h)
    go (inr l) (inr o) = short sheet 0 l (omega arith) ∙ sym (empty sheet l o) ∙ h

pub not_empty : (sheet : List ℕ) → refused_whole sheet ≡ none → 0 < length sheet
not_empty sheet h = go (cases_lt 32768 (length sheet)) (cases_lt 0 (length sheet))
  where
    go : (32768 < length sheet) ⊎ (length sheet ≤ 32768) → (0 < length sheet) ⊎ (length sheet ≤ 0) → 0 < length sheet
    go (inl l) o = absurd (apart (refused_whole sheet) Long h (too_long sheet l))
    go (inr l) (inl o) = o
    go (inr l) (inr o) = absurd (apart (refused_whole sheet) (Cut 0) h (empty sheet l o))
