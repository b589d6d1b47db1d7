-- A sheet has one tiling.
use Rattle.std.proofs.Common.{◌≡◌, ℕ, ◌+◌, ◌<◌, ◌⊎◌, List, length, Some, None, Option, sym, refl, ap, ◌∙◌, subst, inl, inr, arith}
use mathlib.Core.Option as maybe
use Rattle.std.proofs.lemmas.Bool.{cases_order}
use Rattle.rings.specs.declared.refusal.Refusal.{Refusal}
use Rattle.sheet.specs.Bytes.{part}
use Rattle.sheet.specs.Flaws.{flaw_at}
use Rattle.sheet.specs.Written.{written}
use Rattle.sheet.specs.Tiles.{offset, Tile, Ends, OneTiling}
use Rattle.sheet.proofs.Opening.{apart}

-- as the code's own option
abbrev own : maybe.Option Refusal → Option Refusal
own maybe.none = None
own (maybe.some e) = Some e

-- no sound field stands where the fields end
last : (sheet : List ℕ) (k : ℕ) (e : Option Refusal) → Ends sheet (offset sheet k) e → Tile sheet k → ⊥
last sheet k None d t = let i = t.reads.inside in let j = t.reads.after in omega (arith, i, j, d.1)
last sheet k (Some e) d t = apart (flaw_at sheet (offset sheet k)) e t.sound d.1

mixed : (sheet : List ℕ) (at : ℕ) → (at ≡ 0) ⊎ (at < length sheet) → (0 < at) × (at ≡ length sheet) → ⊥
mixed sheet at (inl z) p = omega (arith, p.0)
mixed sheet at (inr l) p = omega (arith, p.1)

same_end : (sheet : List ℕ) (at : ℕ) (e f : Option Refusal) → Ends sheet at e → Ends sheet at f → e ≡ f
same_end sheet at None None c d = refl
same_end sheet at None (Some f) c d = elim (mixed sheet at d.0 c) [ ]
same_end sheet at (Some e) None c d = elim (mixed sheet at c.0 d) [ ]
same_end sheet at (Some e) (Some f) c d = ap own (sym c.1 ∙ d.1)

same_field : (sheet : List ℕ) (k : ℕ) (x y : Tile sheet k) → written x.field ≡ written y.field
same_field sheet k x y =
    sym x.bytes ∙ ap (λ n. part sheet (offset sheet k) (3 + n)) (sym x.reads.size ∙ y.reads.size) ∙ y.bytes

pub one_tiling : (sheet : List ℕ) → OneTiling sheet
one_tiling sheet n m e f s t =
    let r = go (cases_order n m) in (r.0, r.1, λ k g h. same_field sheet k (s.tiles k g) (t.tiles k h))
  where
    go : (n ≡ m) ⊎ ((n < m) ⊎ (m < n)) → (n ≡ m) × (e ≡ f)
    go (inl q) = (q, same_end sheet (offset sheet n) e f s.ends (subst (λ k. Ends sheet (offset sheet k) f) (sym q) t.ends))
    go (inr (inl l)) = elim (last sheet n e s.ends (t.tiles n l)) [ ]
    go (inr (inr l)) = elim (last sheet m f t.ends (s.tiles m l)) [ ]
