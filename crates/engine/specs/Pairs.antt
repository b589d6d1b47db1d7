-- The butterflies of a group with their masks. A layer's masks lie by the butterflies of the layer itself, or by those of its neighbour,
-- whose groups are twice as large.
use Rattle.std.specs.Prelude.{ℕ, ◌+◌, ◌*◌, ◌/◌, List, slice_index}
use Rattle.algebra.specs.Layers.{forward_exponent, inverse_exponent}
use Rattle.algebra.specs.Masks.{MaskedForward, MaskedInverse, block}

-- the byte of butterfly n
abbrev pub byte_of : List ℕ → ℕ → ℕ
byte_of bytes n = slice_index bytes (block bytes n)

-- the mask of butterfly o of group g; in the layer of twice the len, that of place k in the same group
abbrev pub own_mask : List ℕ → (len g o : ℕ) → ℕ
own_mask bytes len g o = byte_of bytes (len * g + o)

abbrev pub wide_mask : List ℕ → (len g k : ℕ) → ℕ
wide_mask bytes len g k = byte_of bytes (2 * len * (g / 2) + k)

-- neg is the modulus less one, w the root, z the exponent of the group's factor
abbrev pub forward_pair : (neg w z len g : ℕ) (before list : List ℕ) → ℕ → ℕ → ℕ → ℕ → ℕ → Type 0
forward_pair neg w z len g before list o a b a' b' =
    MaskedForward 7 neg w z (wide_mask before len g o) (wide_mask before len g (o + len)) (own_mask list len g o) a b a' b'

-- before the factor of the last layer
abbrev pub inverse_pair : (neg w z len g : ℕ) (before list : List ℕ) → ℕ → ℕ → ℕ → ℕ → ℕ → Type 0
inverse_pair neg w z len g before list o a b a' b' =
    MaskedInverse 7 neg w 1 z (own_mask before len g o) (wide_mask list len g o) (wide_mask list len g (o + len)) a b a' b'

-- the same over the groups of layer s
abbrev pub forward_pairs : (neg w s len : ℕ) (before list : List ℕ) → ℕ → ℕ → ℕ → ℕ → ℕ → ℕ → Type 0
forward_pairs neg w s len before list g = forward_pair neg w (forward_exponent 7 s g) len g before list

abbrev pub inverse_pairs : (neg w s len : ℕ) (before list : List ℕ) → ℕ → ℕ → ℕ → ℕ → ℕ → ℕ → Type 0
inverse_pairs neg w s len before list g = inverse_pair neg w (inverse_exponent 7 s g) len g before list
