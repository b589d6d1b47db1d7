-- What the calls compute, on lists of 256 numbers.
use Rattle.std.specs.Prelude.{ℕ, suc, pred, ◌+◌, ◌*◌, ◌/◌, ◌%◌, ◌^◌, List, map}
use Rattle.algebra.specs.declared.Direction.{Direction}
use Rattle.algebra.specs.Polynomials.{coefficient, listed, Polynomial, transform, inverse_transform, polynomial_product, transform_product, layer_of}

-- numbers modulo an odd modulus, and the root of the transform
pub record Base : Type 0 where
  pub modulus : ℕ
  pub root : ℕ

-- -1
abbrev pub neg : Base → ℕ
neg B = pred B.modulus

-- (modulus + 1) / 2 is the inverse of 2
abbrev pub inverse_of_128 : Base → ℕ
inverse_of_128 B = (suc B.modulus / 2) ^ 7

-- 256 numbers below the modulus
abbrev pub Good : Base → List ℕ → Type 0
Good B = Polynomial (neg B)

-- the remainders by the modulus
abbrev pub remainders : Base → List ℕ → List ℕ
remainders B = map (λ x. x % B.modulus)

-- polynomials and transforms are added and subtracted alike
unfoldable pub sum_of : Base → List ℕ → List ℕ → List ℕ
sum_of B x y = listed (neg B) (λ j. coefficient x j + coefficient y j)

unfoldable pub difference_of : Base → List ℕ → List ℕ → List ℕ
difference_of B x y = listed (neg B) (λ j. coefficient x j + neg B * coefficient y j)

-- of polynomials modulo X ^ 256 + 1, and of transforms slot by slot
unfoldable pub product_of : Base → List ℕ → List ℕ → List ℕ
product_of B = polynomial_product (neg B)

unfoldable pub slot_product_of : Base → List ℕ → List ℕ → List ℕ
slot_product_of B = transform_product 7 (neg B) B.root

unfoldable pub transform_of : Base → List ℕ → List ℕ
transform_of B = transform 7 (neg B) B.root

unfoldable pub inverse_of : Base → List ℕ → List ℕ
inverse_of B = inverse_transform 7 (neg B) B.root (inverse_of_128 B)

-- layer s under the masks that the layer before took, and its own
unfoldable pub layer_under : Base → Direction → (s : ℕ) → (incoming outgoing : List ℕ) → List ℕ → List ℕ
layer_under B = layer_of 7 (neg B) B.root (inverse_of_128 B)

-- a J + b J ^ 2: J is 1 and J ^ 2 is 2 k - 254 at each k
unfoldable pub witness : Base → (a b : ℕ) → List ℕ
witness B a b = listed (neg B) (λ k. a + b * (2 * k + neg B * 254))
