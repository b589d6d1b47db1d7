-- The layers of the transforms of FIPS 203 (seven of them) and FIPS 204 (eight), over the numbers modulo suc neg (neg is -1).
-- L is the number of layers and w the root: w ^ (2 ^ L) is -1.
-- A polynomial is the function of its coefficients, of which the first 256 count.
use Rattle.std.specs.Prelude.{ℕ, zero, suc, ◌+◌, ◌-◌, ◌*◌, ◌/◌, ◌%◌, ◌^◌, ◌<◌, cond, nat_lt}
use Rattle.algebra.specs.Congruence.{Same}

-- the L low bits of x, reversed
unfoldable pub bitrev : (L x : ℕ) → ℕ
bitrev zero x = 0
bitrev (suc L) x = x % 2 * 2 ^ L + bitrev L (x / 2)

-- A layer has groups of 2 * len positions. The butterfly o of the group g, o below len, joins the positions g * (2 * len) + o and
-- g * (2 * len) + o + len. The group's factor is w to the power of its index K with the L bits reversed.

-- forward layer s, from 1 to L: len is 256 / 2 ^ s
abbrev pub forward_len : (s : ℕ) → ℕ
forward_len s = 2 ^ (8 - s)

abbrev pub forward_groups : (s : ℕ) → ℕ
forward_groups s = 2 ^ (s - 1)

abbrev pub forward_index : (s g : ℕ) → ℕ
forward_index s g = 2 ^ (s - 1) + g

-- inverse layer s, from 1 to L: of seven layers, len is 2 ^ s
abbrev pub inverse_len : (L s : ℕ) → ℕ
inverse_len L s = 2 ^ (s + 7 - L)

abbrev pub inverse_groups : (L s : ℕ) → ℕ
inverse_groups L s = 2 ^ (L - s)

abbrev pub inverse_index : (L s g : ℕ) → ℕ
inverse_index L s g = 2 ^ (suc L - s) - 1 - g

-- the exponents of the factors
unfoldable pub forward_exponent : (L s g : ℕ) → ℕ
forward_exponent L s g = bitrev L (forward_index s g)

unfoldable pub inverse_exponent : (L s g : ℕ) → ℕ
inverse_exponent L s g = bitrev L (inverse_index L s g)

-- a butterfly of the factor z: (a, b) becomes (a + z b, a - z b), and of the inverse (a + b, z (b - a)); position by position,
-- where the group g has the factor z g
unfoldable pub forward : (neg len : ℕ) → (z f : ℕ → ℕ) → ℕ → ℕ
forward neg len z f j =
    cond (nat_lt (j % (2 * len)) len) (f j + z (j / (2 * len)) * f (j + len))
    (f (j - len) + neg * (z (j / (2 * len)) * f j))

unfoldable pub inverse : (neg len : ℕ) → (z f : ℕ → ℕ) → ℕ → ℕ
inverse neg len z f j =
    cond (nat_lt (j % (2 * len)) len) (f j + f (j + len))
    (z (j / (2 * len)) * (f j + neg * f (j - len)))

unfoldable pub forward_factor : (L w s : ℕ) → ℕ → ℕ
forward_factor L w s g = w ^ forward_exponent L s g

unfoldable pub inverse_factor : (L w s : ℕ) → ℕ → ℕ
inverse_factor L w s g = w ^ inverse_exponent L s g

-- the first s layers of f, forward and of the inverse
unfoldable pub layers : (L neg w s : ℕ) → (ℕ → ℕ) → ℕ → ℕ
layers L neg w zero f = f
layers L neg w (suc s) f = forward neg (forward_len (suc s)) (forward_factor L w (suc s)) (layers L neg w s f)

unfoldable pub inv_layers : (L neg w s : ℕ) → (ℕ → ℕ) → ℕ → ℕ
inv_layers L neg w zero f = f
inv_layers L neg w (suc s) f = inverse neg (inverse_len L (suc s)) (inverse_factor L w (suc s)) (inv_layers L neg w s f)

-- the transform: all L layers
unfoldable pub ntt : (L neg w : ℕ) → (ℕ → ℕ) → ℕ → ℕ
ntt L neg w = layers L neg w L

-- its inverse: all L layers of the inverse, and the factor i, the inverse of 2 ^ L
unfoldable pub inv_ntt : (L neg w i : ℕ) → (ℕ → ℕ) → ℕ → ℕ
inv_ntt L neg w i f j = i * inv_layers L neg w L f j

-- what the inverse holds after s layers: the last of them also multiplies by i
abbrev pub last_factor : (L i s : ℕ) → ℕ
last_factor L i s = cond (nat_lt s L) 1 i

unfoldable pub inv_stage : (L neg w i s : ℕ) → (ℕ → ℕ) → ℕ → ℕ
inv_stage L neg w i s f j = last_factor L i s * inv_layers L neg w s f j

-- what a layer does, butterfly by butterfly
pub record ForwardPairs (neg len count : ℕ) (z f f' : ℕ → ℕ) : Type 0 where
  pub low : (g o : ℕ) → g < count → o < len → Same neg (f' (g * (2 * len) + o)) (f (g * (2 * len) + o) + z g * f (g * (2 * len) + o + len))
  pub high : (g o : ℕ) → g < count → o < len → Same neg (f' (g * (2 * len) + o + len)) (f (g * (2 * len) + o) + neg * (z g * f (g * (2 * len) + o + len)))

pub record InversePairs (neg len count : ℕ) (z f f' : ℕ → ℕ) : Type 0 where
  pub low : (g o : ℕ) → g < count → o < len → Same neg (f' (g * (2 * len) + o)) (f (g * (2 * len) + o) + f (g * (2 * len) + o + len))
  pub high : (g o : ℕ) → g < count → o < len → Same neg (f' (g * (2 * len) + o + len)) (z g * (f (g * (2 * len) + o + len) + neg * f (g * (2 * len) + o)))
