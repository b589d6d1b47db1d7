-- A field that a content spells stands in the sheet from the content's offset on.
use Rattle.std.proofs.Common.{◌≡◌, ℕ, ◌+◌, ◌<◌, ◌≤◌, List, length, get_or, take, drop, ◌-◌, sym, refl, ap, ◌∙◌, arith, drop-drop, get_or-drop, get_or-take}
use Rattle.std.proofs.lemmas.List.{drop-take, take-take}
use Rattle.sheet.specs.declared.field.Field.{Field}
use Rattle.sheet.specs.declared.field.Field.TheVariants.{Redundant, Pair, Load, LoadHat, Forward, Inverse, Add, Subtract, Multiply, Refresh, Clear, Release, Strike}
use Rattle.sheet.specs.Bytes.{Part, two_at, four_at}
use Rattle.sheet.specs.Reads.{width, Loaded, Masked, Three, Content}

module _ (sheet content : List ℕ) (from n : ℕ) (p : Part sheet from n content) where
  byte : (k j : ℕ) → k < n → j ≡ from + k → get_or content k 0 ≡ get_or sheet j 0
  byte k j l e =
      ap (λ xs. get_or xs k 0) p.same ∙ get_or-take n (drop from sheet) k 0 l ∙ get_or-drop from sheet k 0 ∙ ap (λ i. get_or sheet i 0) (sym e)

  two : (k j : ℕ) → k + 1 < n → j ≡ from + k → two_at content k ≡ two_at sheet j
  two k j l e = rw (byte k j (omega arith) e, byte (k + 1) (j + 1) l (omega arith)) refl

  four : (k j : ℕ) → k + 3 < n → j ≡ from + k → four_at content k ≡ four_at sheet j
  four k j l e = rw (two k j (omega arith) e, two (k + 2) (j + 2) (omega arith) (omega arith)) refl

  cut : (k j m : ℕ) (xs : List ℕ) → k + m ≤ n → j ≡ from + k → Part content k m xs → Part sheet j m xs
  cut k j m xs l e q =
      let rest = drop from sheet in
      let d : n ≡ k + (n - k) = omega arith in
      record {
        size = q.size;
        same = q.same ∙ ap (λ ys. take m (drop k ys)) p.same ∙ ap (λ i. take m (drop k (take i rest))) d ∙ ap (take m) (drop-take k (n - k) rest)
            ∙ take-take m (n - k) (drop k rest) (omega arith) ∙ ap (take m) (drop-drop k from sheet) ∙ ap (λ i. take m (drop i sheet)) (sym e);
      }

  loaded : (r c : ℕ) (xs bs : List ℕ) → 771 ≤ n → Loaded content 0 r c xs bs → Loaded sheet from r c xs bs
  loaded r c xs bs l h =
      (h.0 ∙ byte 0 from (omega arith) (omega arith), h.1 ∙ two 1 (from + 1) (omega arith) refl, cut 3 (from + 3) 512 xs (omega arith) refl h.2, cut 515 (from + 515) 256 bs l refl h.3)

  masked : (r : ℕ) (masks : List ℕ) → 1 + length masks ≤ n → Masked content 0 r masks → Masked sheet from r masks
  masked r masks l h = (h.0 ∙ byte 0 from (omega arith) (omega arith), h.1, cut 1 (from + 1) (length masks) masks l refl h.2)

  three : (d a b : ℕ) → 3 ≤ n → Three content 0 d a b → Three sheet from d a b
  three d a b l h =
      (h.0 ∙ byte 0 from (omega arith) (omega arith), h.1 ∙ byte 1 (from + 1) (omega arith) refl, h.2 ∙ byte 2 (from + 2) (omega arith) refl)

  one : (x : ℕ) → 1 ≤ n → x ≡ get_or content 0 0 → x ≡ get_or sheet from 0
  one x l h = h ∙ byte 0 from l (omega arith)

  pub within : (f : Field) → width f ≤ n → Content content 0 f → Content sheet from f
  within (Redundant q t) l c = (c.0 ∙ two 0 from (omega arith) (omega arith), c.1 ∙ byte 2 (from + 2) l refl)
  within (Pair q) l c = c ∙ two 0 from l (omega arith)
  within (Load x) l c = loaded x.register x.c x.coefficients.now x.bytes.now l c
  within (LoadHat x) l c = loaded x.register x.c x.coefficients.now x.bytes.now l c
  within (Forward x) l c = masked x.register x.masks.now l c
  within (Inverse x) l c = masked x.register x.masks.now l c
  within (Add o) l c = three o.d o.a o.b l c
  within (Subtract o) l c = three o.d o.a o.b l c
  within (Multiply o) l c = three o.d o.a o.b l c
  within (Refresh r bs) l c = (one r (omega arith) c.0, cut 1 (from + 1) 256 bs.now l refl c.1)
  within (Clear r) l c = one r l c
  within (Release r) l c = one r l c
  within (Strike position word) l c = (c.0 ∙ two 0 from (omega arith) (omega arith), c.1 ∙ four 2 (from + 2) l refl)
