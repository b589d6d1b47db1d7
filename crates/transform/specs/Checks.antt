-- What each plain call checks, in the order of the refusals' numbers.
use Rattle.std.specs.Prelude.{ℕ, ◌-◌, ◌&&◌, List, [], ◌∷◌, length, ◌==◌, nat_le}
use Rattle.algebra.specs.Masks.{suits}
use Rattle.rings.specs.declared.refusal.Refusal.{Refusal}
use Rattle.rings.specs.declared.refusal.Refusal.TheVariants.{Length, Range, Layer, Masks}
use Rattle.rings.specs.Refusals.{Check, test, scan, flaw, below}

-- a slice, at its position among the call's slices, has 256 numbers
abbrev pub sized : List ℕ → ℕ → Check Refusal
sized xs position = test (length xs == 256) (Length position)

-- every coefficient is below 3329
abbrev pub ranged : List ℕ → Check Refusal
ranged xs = scan (flaw (below 3329) xs) Range

-- the transform and its inverse
abbrev pub transform_checks : (f out : List ℕ) → List (Check Refusal)
transform_checks f out = sized f 0 ∷ sized out 1 ∷ ranged f ∷ []

-- the transform in a guarded ring, over this many words
abbrev pub guarded_checks : (f : List ℕ) (words : ℕ) (out : List ℕ) → List (Check Refusal)
guarded_checks f words out = sized f 0 ∷ test (words == 256) (Length 1) ∷ sized out 2 ∷ ranged f ∷ []

abbrev pub product_checks : (f g out : List ℕ) → List (Check Refusal)
product_checks f g out = sized f 0 ∷ sized g 1 ∷ sized out 2 ∷ ranged f ∷ ranged g ∷ []

-- a layer's number and its two lists
abbrev pub mask_checks : (s : ℕ) (incoming outgoing : List ℕ) → List (Check Refusal)
mask_checks s incoming outgoing =
    test (nat_le 1 s && nat_le s 7) Layer
    ∷ test (suits 7 (s - 1) incoming) (Masks 0)
    ∷ test (suits 7 s outgoing) (Masks 0)
    ∷ []

abbrev pub layer_checks : (f out : List ℕ) (s : ℕ) (incoming outgoing : List ℕ) → List (Check Refusal)
layer_checks f out s incoming outgoing = sized f 0 ∷ sized out 1 ∷ ranged f ∷ mask_checks s incoming outgoing
