-- Products of polynomials modulo X ^ n - c, and the polynomial of all ones.
use Rattle.std.specs.Prelude.{ℕ, zero, suc, ◌+◌, ◌-◌, ◌*◌, ◌/◌, ◌%◌, ◌^◌, ◌<◌, cond, nat_lt}
use Rattle.algebra.specs.Congruence.{Same}
use Rattle.algebra.specs.Sum.{sum}
use Rattle.algebra.specs.Slots.{size, gamma}

-- coefficient k of X ^ i * b modulo X ^ n - c: what passes X ^ n comes round with the factor c
unfoldable pub turned : (n c : ℕ) → (ℕ → ℕ) → (i k : ℕ) → ℕ
turned n c b i k = cond (nat_lt k i) (c * b (n + k - i)) (b (k - i))

-- coefficient k of a * b modulo X ^ n - c
unfoldable pub product_mod : (n c : ℕ) → (a b : ℕ → ℕ) → ℕ → ℕ
product_mod n c a b k = sum n (λ i. a i * turned n c b i k)

-- modulo X ^ 256 + 1
abbrev pub product : (neg : ℕ) → (a b : ℕ → ℕ) → ℕ → ℕ
product neg = product_mod 256 neg

-- the product of two transforms: in slot i the product modulo X ^ size - gamma i; here its coefficient j, in slot j / size
unfoldable pub base_product : (L w : ℕ) → (f g : ℕ → ℕ) → ℕ → ℕ
base_product L w f g j =
    product_mod (size L) (gamma L w (j / size L)) (λ k. f (j / size L * size L + k)) (λ k. g (j / size L * size L + k)) (j % size L)

-- h has the products of the slots of f and g
pub record BaseProducts (L neg w : ℕ) (f g h : ℕ → ℕ) : Type 0 where
  pub at : (i o : ℕ) → i < 2 ^ L → o < size L →
      Same neg (h (i * size L + o)) (product_mod (size L) (gamma L w i) (λ k. f (i * size L + k)) (λ k. g (i * size L + k)) o)

-- J, the polynomial whose coefficients are all 1
abbrev pub ones : ℕ → ℕ
ones k = 1

-- 1 - X
abbrev pub one_less_x : (neg : ℕ) → ℕ → ℕ
one_less_x neg zero = 1
one_less_x neg (suc zero) = neg
one_less_x neg (suc (suc k)) = 0
