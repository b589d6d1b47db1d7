-- Polynomials as lists of 256 numbers, each below the modulus suc neg.
use Rattle.std.specs.Prelude.{◌≡◌, ℕ, suc, ◌%◌, ◌<◌, List, map, length, slice_index}
use Rattle.std.specs.List.{range_with_len}
use Rattle.algebra.specs.declared.Direction.{Direction}
use Rattle.algebra.specs.Layers.{ntt, inv_ntt}
use Rattle.algebra.specs.Product.{product, base_product}
use Rattle.algebra.specs.Masks.{masked_layer}

abbrev pub coefficient : List ℕ → ℕ → ℕ
coefficient xs j = slice_index xs j

-- the first 256 values of f, reduced
unfoldable pub listed : (neg : ℕ) → (ℕ → ℕ) → List ℕ
listed neg f = map (λ j. f j % suc neg) (range_with_len 0 256)

pub record Polynomial (neg : ℕ) (xs : List ℕ) : Type 0 where
  pub size : length xs ≡ 256
  pub small : (j : ℕ) → j < 256 → coefficient xs j < suc neg

abbrev pub transform : (L neg w : ℕ) → List ℕ → List ℕ
transform L neg w xs = listed neg (ntt L neg w (coefficient xs))

abbrev pub inverse_transform : (L neg w i : ℕ) → List ℕ → List ℕ
inverse_transform L neg w i xs = listed neg (inv_ntt L neg w i (coefficient xs))

-- modulo X ^ 256 + 1
abbrev pub polynomial_product : (neg : ℕ) → List ℕ → List ℕ → List ℕ
polynomial_product neg xs ys = listed neg (product neg (coefficient xs) (coefficient ys))

-- of two transforms, slot by slot
abbrev pub transform_product : (L neg w : ℕ) → List ℕ → List ℕ → List ℕ
transform_product L neg w xs ys = listed neg (base_product L w (coefficient xs) (coefficient ys))

abbrev pub layer_of : (L neg w i : ℕ) → Direction → (s : ℕ) → (incoming outgoing : List ℕ) → List ℕ → List ℕ
layer_of L neg w i way s incoming outgoing xs = listed neg (masked_layer L neg w i way s incoming outgoing (coefficient xs))
