-- What the plain calls write: polynomials modulo 3329, with the root 17 and the inverse 3303 of 128.
use Rattle.std.specs.Prelude.{◌≡◌, ℕ, ◌+◌, ◌-◌, ◌*◌, ◌<◌, List, slice_index_or}
use Rattle.guarded.specs.Model.{Guarded, Lifted}
use Rattle.algebra.specs.declared.Direction.{Direction}
use Rattle.algebra.specs.declared.Direction.TheVariants.{Forward, Inverse}
use Rattle.algebra.specs.Congruence.{Same}
use Rattle.algebra.specs.Layers.{layers, inv_stage}
use Rattle.algebra.specs.Slots.{slot}
use Rattle.algebra.specs.Masks.{Holds, mask_after}
use Rattle.algebra.specs.Polynomials.{coefficient, transform, inverse_transform, polynomial_product, transform_product, layer_of}

abbrev pub ntt_of : List ℕ → List ℕ
ntt_of = transform 7 3328 17

abbrev pub inverse_of : List ℕ → List ℕ
inverse_of = inverse_transform 7 3328 17 3303

-- out is the transform of f; the inverse takes it back, and slot k of it is f modulo X ^ 2 - gamma k
pub record Transformed (f out : List ℕ) : Type 0 where
  pub is : out ≡ ntt_of f
  pub back : inverse_of out ≡ f
  pub slots : (k o : ℕ) → k < 128 → o < 2 → Same 3328 (coefficient out (k * 2 + o)) (slot 7 17 (coefficient f) k o)

-- out is the inverse transform of f, and the transform takes it back
pub record Inverted (f out : List ℕ) : Type 0 where
  pub is : out ≡ inverse_of f
  pub back : ntt_of out ≡ f

-- out is the product of the transforms f and g, slot by slot; it is the transform of the product, modulo X ^ 256 + 1, of what f and g transform
pub record Multiplied (f g out : List ℕ) : Type 0 where
  pub is : out ≡ transform_product 7 3328 17 f g
  pub product : out ≡ ntt_of (polynomial_product 3328 (inverse_of f) (inverse_of g))

-- what the plain transform of g, or its inverse, holds after s layers
abbrev pub stage : Direction → (s : ℕ) → (ℕ → ℕ) → ℕ → ℕ
stage Forward s = layers 7 3328 17 s
stage Inverse s = inv_stage 7 3328 17 3303 s

-- out is layer s of f under its masks; where f held s - 1 layers of any g under the incoming masks, out holds s layers of it under the outgoing ones
pub record Layered (way : Direction) (s : ℕ) (incoming outgoing f out : List ℕ) : Type 0 where
  pub is : out ≡ layer_of 7 3328 17 3303 way s incoming outgoing f
  pub step : (g : ℕ → ℕ) → Holds 3328 17 (mask_after 7 way (s - 1) incoming) (stage way (s - 1) g) (coefficient f) →
      Holds 3328 17 (mask_after 7 way s outgoing) (stage way s g) (coefficient out)

-- each word is one of the elements that leave a coefficient of out by 3329 and 0 by the check modulus
pub record WordsHold {W : Type 0} (G : Guarded W) (words : List W) (out : List ℕ) : Type 0 where
  pub at : (j : ℕ) (d : W) → j < 256 → (k : ℕ) × Lifted G (coefficient out j) 0 k (slice_index_or words j d)
