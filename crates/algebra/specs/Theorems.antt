-- What is proved of the transform of L layers, for every modulus suc neg, every root w with w ^ (2 ^ L) = -1 and every inverse i of 2 ^ L.
use Rattle.std.specs.Prelude.{◌≡◌, ℕ, suc, ◌+◌, ◌*◌, ◌^◌, ◌<◌, ◌≤◌, List, slice_index}
use Rattle.algebra.specs.declared.Direction.{Direction}
use Rattle.algebra.specs.declared.Direction.TheVariants.{Forward, Inverse}
use Rattle.algebra.specs.Congruence.{Same}
use Rattle.algebra.specs.Layers.{forward_len, forward_groups, inverse_len, inverse_groups, layers, inv_layers, inv_stage, ntt, inv_ntt}
use Rattle.algebra.specs.Slots.{size, gamma, slot}
use Rattle.algebra.specs.Product.{product_mod, product, BaseProducts, ones, one_less_x}
use Rattle.algebra.specs.Masks.{Holds, ForwardLayer, InverseLayer, block, mask_after, masked_layer}
use Rattle.algebra.specs.Polynomials.{Polynomial, transform, inverse_transform, polynomial_product, transform_product}

pub record Laws (L neg w i : ℕ) : Type 0 where
  -- each transform undoes the other
  pub inverse_after : (f : ℕ → ℕ) (j : ℕ) → j < 256 → Same neg (inv_ntt L neg w i (ntt L neg w f) j) (f j)
  pub forward_after : (f : ℕ → ℕ) (j : ℕ) → j < 256 → Same neg (ntt L neg w (inv_ntt L neg w i f) j) (f j)
  -- and so on the way: s layers of the inverse undo the last s layers, t layers undo the last t of the inverse
  pub inverse_partly : (s t : ℕ) → s + t ≡ L → (f : ℕ → ℕ) (j : ℕ) → j < 256 → Same neg (inv_layers L neg w s (ntt L neg w f) j) (2 ^ s * layers L neg w t f j)
  pub forward_partly : (t s : ℕ) → s + t ≡ L → (f : ℕ → ℕ) (j : ℕ) → j < 256 → Same neg (layers L neg w t (inv_layers L neg w L f) j) (2 ^ t * inv_layers L neg w s f j)
  -- the layers are the transform slot by slot: slot k is f modulo X ^ size - gamma k
  pub slots : (f : ℕ → ℕ) (k o : ℕ) → k < 2 ^ L → o < size L → Same neg (ntt L neg w f (k * size L + o)) (slot L w f k o)
  -- the slots of a product modulo X ^ 256 + 1 are the products of the slots
  pub slot_products : (a b : ℕ → ℕ) (k o : ℕ) → o < size L →
      Same neg (slot L w (product neg a b) k o) (product_mod (size L) (gamma L w k) (slot L w a k) (slot L w b k) o)
  pub transform_products : (a b : ℕ → ℕ) → BaseProducts L neg w (ntt L neg w a) (ntt L neg w b) (ntt L neg w (product neg a b))
  pub convolution : (a b h : ℕ → ℕ) → BaseProducts L neg w (ntt L neg w a) (ntt L neg w b) h → (j : ℕ) → j < 256 → Same neg (inv_ntt L neg w i h j) (product neg a b j)
  -- a masked layer takes any f, held after s layers under the masks e, to f after suc s layers under the masks d
  pub forward_step : (s : ℕ) → s < L → (before list : List ℕ) (f h h' : ℕ → ℕ) →
      Holds neg w (mask_after L Forward s before) (layers L neg w s f) h →
      ForwardLayer L neg w (suc s) (mask_after L Forward s before) (mask_after L Forward (suc s) list) h h' →
      Holds neg w (mask_after L Forward (suc s) list) (layers L neg w (suc s) f) h'
  pub inverse_step : (s : ℕ) → s < L → (before list : List ℕ) (f h h' : ℕ → ℕ) →
      Holds neg w (mask_after L Inverse s before) (inv_stage L neg w i s f) h →
      InverseLayer L neg w i (suc s) (mask_after L Inverse s before) (mask_after L Inverse (suc s) list) h h' →
      Holds neg w (mask_after L Inverse (suc s) list) (inv_stage L neg w i (suc s) f) h'
  -- so after each layer, in either direction and under any lists (layer s takes lists s), every position holds its mask's power of w
  -- times the value that the plain transform of h 0 has there after as many layers
  pub masked_forward : (lists : ℕ → List ℕ) (h : ℕ → ℕ → ℕ) →
      ((s : ℕ) → s < L → ForwardLayer L neg w (suc s) (mask_after L Forward s (lists s)) (mask_after L Forward (suc s) (lists (suc s))) (h s) (h (suc s))) →
      (s : ℕ) → s ≤ L → Holds neg w (mask_after L Forward s (lists s)) (layers L neg w s (h 0)) (h s)
  pub masked_inverse : 0 < L → (lists : ℕ → List ℕ) (h : ℕ → ℕ → ℕ) →
      ((s : ℕ) → s < L → InverseLayer L neg w i (suc s) (mask_after L Inverse s (lists s)) (mask_after L Inverse (suc s) (lists (suc s))) (h s) (h (suc s))) →
      (s : ℕ) → s ≤ L → Holds neg w (mask_after L Inverse s (lists s)) (inv_stage L neg w i s (h 0)) (h s)
  -- the layer position by position is the layer butterfly by butterfly
  pub forward_layers : (s : ℕ) → s < L → (incoming outgoing : List ℕ) (h : ℕ → ℕ) →
      ForwardLayer L neg w (suc s) (mask_after L Forward s incoming) (mask_after L Forward (suc s) outgoing) h (masked_layer L neg w i Forward (suc s) incoming outgoing h)
  pub inverse_layers : (s : ℕ) → s < L → (incoming outgoing : List ℕ) (h : ℕ → ℕ) →
      InverseLayer L neg w i (suc s) (mask_after L Inverse s incoming) (mask_after L Inverse (suc s) outgoing) h (masked_layer L neg w i Inverse (suc s) incoming outgoing h)
  -- the same on lists of 256 numbers
  pub list_back : (xs : List ℕ) → Polynomial neg xs → inverse_transform L neg w i (transform L neg w xs) ≡ xs
  pub list_forward : (xs : List ℕ) → Polynomial neg xs → transform L neg w (inverse_transform L neg w i xs) ≡ xs
  pub list_product : (xs ys : List ℕ) → Polynomial neg xs → Polynomial neg ys →
      transform_product L neg w xs ys ≡ transform L neg w (polynomial_product neg (inverse_transform L neg w i xs) (inverse_transform L neg w i ys))

abbrev pub Transforms : Type 0
Transforms = (L neg w i : ℕ) → L ≤ 8 → Same neg (w ^ (2 ^ L)) neg → Same neg (i * 2 ^ L) 1 → Laws L neg w i

-- every odd modulus, 2 h + 1, has the inverse of 2 ^ L that this takes
abbrev pub OddModuli : Type 0
OddModuli = (L h w : ℕ) → L ≤ 8 → Same (2 * h) (w ^ (2 ^ L)) (2 * h) → Laws L (2 * h) w (suc h ^ L)

-- remainders go through the transform: where suc neg divides suc big, and f and g are equal modulo suc neg, so are their transforms
abbrev pub RemaindersPass : Type 0
RemaindersPass = (neg big k L w v : ℕ) → suc big ≡ suc neg * k → L ≤ 8 → Same big (w ^ (2 ^ L)) big → Same neg (v ^ (2 ^ L)) neg → Same neg w v →
    (f g : ℕ → ℕ) → ((j : ℕ) → j < 256 → Same neg (f j) (g j)) → (j : ℕ) → j < 256 → Same neg (ntt L big w f j) (ntt L neg v g j)

abbrev pub MlKem : Type 0
MlKem = Laws 7 3328 17 3303

abbrev pub MlDsa : Type 0
MlDsa = Laws 8 8380416 1753 8347681

-- both positions of each butterfly of a layer, butterfly n being len * g + o, carry the byte of its block
pub record Carries (len count : ℕ) (bytes : List ℕ) (e : ℕ → ℕ) : Type 0 where
  pub low : (g o : ℕ) → g < count → o < len → e (g * (2 * len) + o) ≡ slice_index bytes (block bytes (len * g + o))
  pub high : (g o : ℕ) → g < count → o < len → e (g * (2 * len) + o + len) ≡ slice_index bytes (block bytes (len * g + o))

-- the masks of lists, by the positions that carry them
pub record Masks (L : ℕ) : Type 0 where
  pub first : (way : Direction) (bytes : List ℕ) (j : ℕ) → mask_after L way 0 bytes j ≡ 0
  pub last : (way : Direction) (bytes : List ℕ) (j : ℕ) → mask_after L way L bytes j ≡ 0
  -- after forward layer s, by the butterflies of layer s
  pub after_forward : (s : ℕ) (bytes : List ℕ) → 0 < s → s < L → Carries (forward_len s) (forward_groups s) bytes (mask_after L Forward s bytes)
  -- after inverse layer s, by the butterflies of layer suc s
  pub after_inverse : (s : ℕ) (bytes : List ℕ) → 0 < s → s < L → Carries (inverse_len L (suc s)) (inverse_groups L (suc s)) bytes (mask_after L Inverse s bytes)

abbrev pub MaskLists : Type 0
MaskLists = (L : ℕ) → L ≤ 8 → Masks L

-- the products modulo X ^ n - c form a commutative ring; with two coefficients and with one they are the standards' base products
pub record Products : Type 0 where
  pub two_first : (c : ℕ) (a b : ℕ → ℕ) → product_mod 2 c a b 0 ≡ a 0 * b 0 + a 1 * b 1 * c
  pub two_second : (c : ℕ) (a b : ℕ → ℕ) → product_mod 2 c a b 1 ≡ a 0 * b 1 + a 1 * b 0
  pub one : (c : ℕ) (a b : ℕ → ℕ) → product_mod 1 c a b 0 ≡ a 0 * b 0
  pub commutes : (n c : ℕ) (a b : ℕ → ℕ) (k : ℕ) → k < n → product_mod n c a b k ≡ product_mod n c b a k
  pub associates : (n c : ℕ) (a b e : ℕ → ℕ) (k : ℕ) → k < n → product_mod n c (product_mod n c a b) e k ≡ product_mod n c a (product_mod n c b e) k
  pub distributes : (n c : ℕ) (a b e : ℕ → ℕ) (k : ℕ) → product_mod n c a (λ j. b j + e j) k ≡ product_mod n c a b k + product_mod n c a e k

-- J modulo X ^ 256 + 1: coefficient k of J J is 2 k - 254, (1 - X) J is 2, and e J determines e
pub record AllOnes (neg half : ℕ) : Type 0 where
  pub square : (k : ℕ) → k < 256 → Same neg (product neg ones ones k + 254) (2 * k)
  pub one_less_first : Same neg (product neg (one_less_x neg) ones 0) 2
  pub one_less_next : (k : ℕ) → k < 255 → Same neg (product neg (one_less_x neg) ones (suc k)) 0
  pub cancel : (e d : ℕ → ℕ) → ((k : ℕ) → k < 256 → Same neg (product neg e ones k) (product neg d ones k)) → (k : ℕ) → k < 256 → Same neg (e k) (d k)

-- half is the inverse of 2
abbrev pub Ones : Type 0
Ones = (neg half : ℕ) → Same neg (half * 2) 1 → AllOnes neg half
