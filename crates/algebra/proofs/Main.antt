-- The inverse in the other order, and the product by the transforms.
use Rattle.std.proofs.Common.{◌≡◌, ℕ, ◌+◌, ◌-◌, ◌*◌, ◌/◌, ◌%◌, ◌^◌, ◌<◌, ◌≤◌, ◌∙◌, subst, mod-lt, div-lt_iff_lt-mul, arith, pow_pos}
use native.Mathlib.Nat.{div-add-mod}
use Rattle.algebra.specs.Congruence.{Same}
use Rattle.algebra.specs.Layers.{inv_layers, ntt, inv_ntt}
use Rattle.algebra.specs.Slots.{size, slot, gamma}
use Rattle.algebra.specs.Product.{product, BaseProducts}
use Rattle.algebra.proofs.Modular.{same_of, same_refl, same_sym, ◌⨾◌, same_add, same_mul_left, same_mul_right}
use Rattle.algebra.proofs.Sums.{sum_cong, sum_add}
use Rattle.algebra.proofs.Inverse.{inv_ntt_ntt, ntt_back}
use Rattle.algebra.proofs.Slots.{ntt_slots}
use Rattle.algebra.proofs.Product.{slots_fill, slot_product}
use Rattle.algebra.proofs.Ring.{product_same}
use Rattle.algebra.proofs.Linear.{layers_scale, inv_layers_scale}

-- what holds at each place of each slot holds at each place
pub in_slots : (L : ℕ) → L ≤ 8 → (P : ℕ → Type 0) → ((i o : ℕ) → i < 2 ^ L → o < size L → P (i * size L + o)) → (j : ℕ) → j < 256 → P j
in_slots L top P at j h =
    let pos : 0 < size L = pow_pos (8 - L) in
    let less : j < 2 ^ L * size L = omega (arith, slots_fill L top) in
    let is : j / size L * size L + j % size L ≡ j = omega (arith, div-add-mod j (size L)) in
    subst P is (at (j / size L) (j % size L) ((div-lt_iff_lt-mul {k = size L} pos).1 less) (mod-lt j pos))

pub slot_add : (L w : ℕ) (f g : ℕ → ℕ) (i o : ℕ) → slot L w (λ j. f j + g j) i o ≡ slot L w f i o + slot L w g i o
unfolding slot
slot_add L w f g i o =
    sum_cong (2 ^ L) _ _ (λ n h. omega arith) ∙ sum_add (2 ^ L) (λ n. f (n * size L + o) * gamma L w i ^ n) (λ n. g (n * size L + o) * gamma L w i ^ n)

module _ {neg : ℕ} (L w : ℕ) (top : L ≤ 8) (root : Same neg (w ^ (2 ^ L)) neg) (i : ℕ) (unit : Same neg (i * 2 ^ L) 1) where
  pub ntt_inv_ntt : (h : ℕ → ℕ) (j : ℕ) → j < 256 → Same neg (ntt L neg w (inv_ntt L neg w i h) j) (h j)
  unfolding ntt inv_ntt
  ntt_inv_ntt h j k =
      layers_scale L w top i (inv_ntt L neg w i h) (inv_layers L neg w L h) (λ j k. same_refl) L (omega arith) j k
      ⨾ same_mul_left i (ntt_back L w top root h j k)
      ⨾ same_of {y = i * 2 ^ L * h j} (omega arith) ⨾ same_mul_right (h j) unit ⨾ same_of (omega arith)

  pub ntt_cong : (f g : ℕ → ℕ) → ((j : ℕ) → j < 256 → Same neg (f j) (g j)) → (j : ℕ) → j < 256 → Same neg (ntt L neg w f j) (ntt L neg w g j)
  unfolding ntt
  ntt_cong f g e j k = layers_scale L w top 1 f g (λ j k. e j k ⨾ same_of (omega arith)) L (omega arith) j k ⨾ same_of (omega arith)

  pub inv_ntt_cong : (f g : ℕ → ℕ) → ((j : ℕ) → j < 256 → Same neg (f j) (g j)) → (j : ℕ) → j < 256 → Same neg (inv_ntt L neg w i f j) (inv_ntt L neg w i g j)
  unfolding inv_ntt
  inv_ntt_cong f g e j k =
      same_mul_left i (inv_layers_scale L w top 1 f g (λ j k. e j k ⨾ same_of (omega arith)) L 0 (omega arith) j k ⨾ same_of (omega arith))

  pub ntt_add : (f g : ℕ → ℕ) (j : ℕ) → j < 256 → Same neg (ntt L neg w (λ j. f j + g j) j) (ntt L neg w f j + ntt L neg w g j)
  ntt_add f g =
      in_slots L top (λ j. Same neg (ntt L neg w (λ j. f j + g j) j) (ntt L neg w f j + ntt L neg w g j))
      (λ i o h k.
      ntt_slots L w top root (λ j. f j + g j) i o h k ⨾ same_of (slot_add L w f g i o)
      ⨾ same_add (same_sym (ntt_slots L w top root f i o h k)) (same_sym (ntt_slots L w top root g i o h k)))

  -- the transform of a product has the base products
  pub ntt_product : (a b : ℕ → ℕ) → BaseProducts L neg w (ntt L neg w a) (ntt L neg w b) (ntt L neg w (product neg a b))
  ntt_product a b =
      record {
        at = λ i o h k.
            ntt_slots L w top root (product neg a b) i o h k ⨾ slot_product L w top root a b i o k
            ⨾ product_same (size L) (gamma L w i) (slot L w a i) (slot L w b i)
            (λ k. ntt L neg w a (i * size L + k)) (λ k. ntt L neg w b (i * size L + k))
            (λ q l. same_sym (ntt_slots L w top root a i q h l)) (λ q l. same_sym (ntt_slots L w top root b i q h l)) o k;
      }

  -- the convolution theorem
  pub product_by_ntt : (a b h : ℕ → ℕ) → BaseProducts L neg w (ntt L neg w a) (ntt L neg w b) h →
      (j : ℕ) → j < 256 → Same neg (inv_ntt L neg w i h j) (product neg a b j)
  product_by_ntt a b h B j k =
      inv_ntt_cong h (ntt L neg w (product neg a b))
      (in_slots L top (λ j. Same neg (h j) (ntt L neg w (product neg a b) j)) (λ i o q l. B.at i o q l ⨾ same_sym ((ntt_product a b).at i o q l))) j k
      ⨾ inv_ntt_ntt L w top root i unit (product neg a b) j k
