-- A field that is written in a sheet is the one that is read.
use Rattle.std.proofs.Common.{◌≡◌, ℕ, ◌+◌, ◌/◌, ◌%◌, ◌<◌, ◌≤◌, List, get_or, drop, Some, sym, refl, ap, ◌∙◌, arith, get_or-drop, get_or-take}
use mathlib.Core.Option.{none, some}
use Rattle.std.proofs.lemmas.Bool.{le-leb, and_from}
use Rattle.rings.specs.declared.refusal.Refusal.{Refusal}
use Rattle.sheet.specs.declared.kind.Kind.{Kind}
use Rattle.sheet.specs.declared.kind.Kind.TheVariants as is
use Rattle.sheet.specs.declared.field.Field.{Field}
use Rattle.sheet.specs.declared.field.Field.TheVariants.{Redundant, Pair, Load, LoadHat, Forward, Inverse, Add, Subtract, Multiply, Refresh, Clear, Release, Strike}
use Rattle.sheet.specs.Bytes.{part}
use Rattle.sheet.specs.Kinds.{letter, kind_of, least, most}
use Rattle.sheet.specs.Flaws.{tag_at, size_at, flaw_at}
use Rattle.sheet.specs.Reads.{kind, mark, width, Reads}
use Rattle.sheet.specs.Written.{written, WrittenAt}
use Rattle.sheet.proofs.Flaws.{fitting}
use Rattle.sheet.proofs.Opening.{apart}

-- byte i of a field that is written at an offset
byte_of : (sheet : List ℕ) (at i k : ℕ) (f : Field) → WrittenAt sheet at f → i < 3 → k ≡ at + i → get_or sheet k 0 ≡ get_or (written f) i 0
byte_of sheet at i k f w h e =
    let n = 3 + width f in
    let l : i < n = omega arith in
    ap (λ j. get_or sheet j 0) e ∙ sym (get_or-drop at sheet i 0) ∙ sym (get_or-take n (drop at sheet) i 0 l) ∙ ap (λ xs. get_or xs i 0) w.bytes

tag_of : (sheet : List ℕ) (at : ℕ) (f : Field) → WrittenAt sheet at f → tag_at sheet at ≡ mark f
tag_of sheet at f w = byte_of sheet at 0 at f w (omega arith) (omega arith)

size_of : (sheet : List ℕ) (at : ℕ) (f : Field) → WrittenAt sheet at f → size_at sheet at ≡ width f
size_of sheet at f w =
    let high : get_or sheet (at + 1) 0 ≡ width f / 256 = byte_of sheet at 1 (at + 1) f w (omega arith) refl in
    let low : get_or sheet (at + 1 + 1) 0 ≡ width f % 256 = byte_of sheet at 2 (at + 1 + 1) f w (omega arith) (omega arith) in
    omega (arith, high, low)

named : (k : Kind) → Some k ≡ kind_of (letter k)
named is.Redundant = refl
named is.Pair = refl
named is.Load = refl
named is.LoadHat = refl
named is.Forward = refl
named is.Inverse = refl
named is.Add = refl
named is.Subtract = refl
named is.Multiply = refl
named is.Refresh = refl
named is.Clear = refl
named is.Release = refl
named is.Strike = refl

enough : (f : Field) → least (kind f) ≤ width f
enough (Redundant p t) = omega arith
enough (Pair p) = omega arith
enough (Load l) = omega arith
enough (LoadHat l) = omega arith
enough (Forward l) = omega arith
enough (Inverse l) = omega arith
enough (Add o) = omega arith
enough (Subtract o) = omega arith
enough (Multiply o) = omega arith
enough (Refresh r bs) = omega arith
enough (Clear r) = omega arith
enough (Release r) = omega arith
enough (Strike position word) = omega arith

accepted : (sheet : List ℕ) (at : ℕ) (f : Field) → WrittenAt sheet at f → flaw_at sheet at ≡ none
accepted sheet at f w =
    let size = size_of sheet at f w in
    fitting sheet at w.short (omega (arith, size, w.inside)) (kind f) (named (kind f) ∙ ap kind_of (sym (tag_of sheet at f w))) (sym w.stands)
    (sym (and_from _ _ (le-leb (least (kind f)) (size_at sheet at) (omega (arith, size, enough f))) (le-leb (size_at sheet at) (most (kind f)) (omega (arith, size, w.few)))))

pub never_refused : (sheet : List ℕ) (at : ℕ) (e : Refusal) → flaw_at sheet at ≡ some e → (f : Field) → WrittenAt sheet at f → ⊥
never_refused sheet at e h f w = apart (flaw_at sheet at) e (accepted sheet at f w) h

pub same : (sheet : List ℕ) (at next : ℕ) (g : Field) → Reads sheet at g next → part sheet at (3 + width g) ≡ written g → (f : Field) → WrittenAt sheet at f
    → (written g ≡ written f) × (next ≡ at + 3 + width f)
same sheet at next g r b f w =
    let e : width g ≡ width f = sym r.size ∙ size_of sheet at f w in
    (sym b ∙ ap (λ n. part sheet at (3 + n)) e ∙ w.bytes, r.after ∙ ap (λ n. at + 3 + n) e)
