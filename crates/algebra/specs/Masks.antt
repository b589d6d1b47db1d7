-- Masked layers: a position holds w to the power of its mask, times its value in the plain transform.
-- A mask is an exponent. Exponents are added and subtracted modulo 2 ^ suc L, the order of w: 256 where L is 7.
use Rattle.std.specs.Prelude.{ℕ, zero, suc, ◌+◌, ◌-◌, ◌*◌, ◌/◌, ◌%◌, ◌^◌, ◌<◌, Bool, cond, ◌||◌, List, length, ◌==◌, nat_lt, slice_index}
use Rattle.algebra.specs.declared.Direction.{Direction}
use Rattle.algebra.specs.declared.Direction.TheVariants.{Forward, Inverse}
use Rattle.algebra.specs.Congruence.{Same}
use Rattle.algebra.specs.Layers.{forward_len, forward_groups, forward_exponent, inverse_len, inverse_groups, inverse_exponent, last_factor}

-- the exponent d - e
unfoldable pub mask_difference : (L d e : ℕ) → ℕ
mask_difference L d e = (d + (2 ^ suc L - e % 2 ^ suc L)) % 2 ^ suc L

-- h holds f under the masks e
pub record Holds (neg w : ℕ) (e f h : ℕ → ℕ) : Type 0 where
  pub at : (j : ℕ) → j < 256 → Same neg (h j) (w ^ e j * f j)

-- a forward butterfly: a and b come under the masks e1 and e2, both results go under e3
pub record MaskedForward (L neg w z e1 e2 e3 a b a' b' : ℕ) : Type 0 where
  pub low : Same neg a' (w ^ mask_difference L e3 e1 * a + w ^ mask_difference L (z + e3) e2 * b)
  pub high : Same neg b' (w ^ mask_difference L e3 e1 * a + neg * (w ^ mask_difference L (z + e3) e2 * b))

-- an inverse butterfly: a and b come under one mask e, the results go under o1 and o2; c is the layer's last factor
pub record MaskedInverse (L neg w c z e o1 o2 a b a' b' : ℕ) : Type 0 where
  pub low : Same neg a' (c * (w ^ mask_difference L o1 e * (a + b)))
  pub high : Same neg b' (c * (w ^ mask_difference L (z + o2) e * (b + neg * a)))

-- layer s, from the values h under the masks e to the values h' under the masks d
pub record ForwardLayer (L neg w s : ℕ) (e d h h' : ℕ → ℕ) : Type 0 where
  pub at : (g o : ℕ) → g < forward_groups s → o < forward_len s →
      let j : ℕ = g * (2 * forward_len s) + o in
      let k : ℕ = g * (2 * forward_len s) + o + forward_len s in
      MaskedForward L neg w (forward_exponent L s g) (e j) (e k) (d j) (h j) (h k) (h' j) (h' k)

pub record InverseLayer (L neg w i s : ℕ) (e d h h' : ℕ → ℕ) : Type 0 where
  pub at : (g o : ℕ) → g < inverse_groups L s → o < inverse_len L s →
      let j : ℕ = g * (2 * inverse_len L s) + o in
      let k : ℕ = g * (2 * inverse_len L s) + o + inverse_len L s in
      MaskedInverse L neg w (last_factor L i s) (inverse_exponent L s g) (e j) (d j) (d k) (h j) (h k) (h' j) (h' k)

-- Lists of masks: N bytes for N blocks of 128 / N butterflies, N being 1, 2, 4, 8, 16, 32, 64 or 128

abbrev pub is_list_length : ℕ → Bool
is_list_length n = n == 1 || (n == 2 || (n == 4 || (n == 8 || (n == 16 || (n == 32 || (n == 64 || n == 128))))))

-- a list suits the masks after s layers: there are none before layer 1 and after layer L
abbrev pub suits : (L s : ℕ) → List ℕ → Bool
suits L s bytes = cond (s == 0 || s == L) (length bytes == 0) (is_list_length (length bytes))

-- the number of the butterfly to which position j belongs, in a layer of this len
abbrev pub butterfly : (len j : ℕ) → ℕ
butterfly len j = len * (j / (2 * len)) + j % len

-- the block of butterfly n
abbrev pub block : (bytes : List ℕ) (n : ℕ) → ℕ
block bytes n = n / (128 / length bytes)

-- the len of the layer whose butterflies carry the masks after s layers: forward that of layer s, of the inverse that of the layer after it
unfoldable pub carrying_len : (L : ℕ) → Direction → (s : ℕ) → ℕ
carrying_len L Forward s = forward_len s
carrying_len L Inverse s = inverse_len L (suc s)

-- the mask of position j after s layers, of which the last took this list
unfoldable pub mask_after : (L : ℕ) → Direction → (s : ℕ) → List ℕ → ℕ → ℕ
mask_after L way zero bytes j = 0
mask_after L way (suc s) bytes j =
    cond (nat_lt (suc s) L) (slice_index bytes (block bytes (butterfly (carrying_len L way (suc s)) j))) 0

-- layer s position by position
unfoldable pub masked_forward : (L neg w s : ℕ) → (e d h : ℕ → ℕ) → ℕ → ℕ
masked_forward L neg w s e d h j =
    let len : ℕ = forward_len s in
    let z : ℕ = forward_exponent L s (j / (2 * len)) in
    cond (nat_lt (j % (2 * len)) len)
    (w ^ mask_difference L (d j) (e j) * h j + w ^ mask_difference L (z + d j) (e (j + len)) * h (j + len))
    (w ^ mask_difference L (d (j - len)) (e (j - len)) * h (j - len) + neg * (w ^ mask_difference L (z + d (j - len)) (e j) * h j))

unfoldable pub masked_inverse : (L neg w i s : ℕ) → (e d h : ℕ → ℕ) → ℕ → ℕ
masked_inverse L neg w i s e d h j =
    let len : ℕ = inverse_len L s in
    let z : ℕ = inverse_exponent L s (j / (2 * len)) in
    last_factor L i s
    * cond (nat_lt (j % (2 * len)) len)
    (w ^ mask_difference L (d j) (e j) * (h j + h (j + len)))
    (w ^ mask_difference L (z + d j) (e (j - len)) * (h j + neg * h (j - len)))

-- layer s in either direction, under the list that the layer before took and its own
unfoldable pub masked_layer : (L neg w i : ℕ) → Direction → (s : ℕ) → (incoming outgoing : List ℕ) → (ℕ → ℕ) → ℕ → ℕ
masked_layer L neg w i Forward s incoming outgoing =
    masked_forward L neg w s (mask_after L Forward (s - 1) incoming) (mask_after L Forward s outgoing)
masked_layer L neg w i Inverse s incoming outgoing =
    masked_inverse L neg w i s (mask_after L Inverse (s - 1) incoming) (mask_after L Inverse s outgoing)
