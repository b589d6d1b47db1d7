-- From functions to lists.
use Rattle.std.proofs.Common.{◌≡◌, ℕ, suc, ◌+◌, ◌*◌, ◌%◌, ◌^◌, ◌<◌, ◌≤◌, List, sym, ap, ◌∙◌, mod-lt, mod-eq_of_lt, arith}
use native.Mathlib.Nat.{mod-mod}
use lib.Arith.{digits_div, digits_mod, digits_lt}
use Rattle.std.proofs.lemmas.List.FromFn.{get_or-map-range_with_len, length-map-range_with_len, fill_by_all}
use Rattle.algebra.specs.Congruence.{Same}
use Rattle.algebra.specs.Layers.{ntt, inv_ntt}
use Rattle.algebra.specs.Slots.{size, gamma}
use Rattle.algebra.specs.Product.{product, base_product, BaseProducts}
use Rattle.algebra.specs.Polynomials.{coefficient, listed, Polynomial, transform, inverse_transform, polynomial_product, transform_product}
use Rattle.algebra.proofs.Modular.{same_refl, same_sym, ◌⨾◌}
use Rattle.algebra.proofs.Inverse.{inv_ntt_ntt}
use Rattle.algebra.proofs.Product.{slots_fill}
use Rattle.algebra.proofs.Ring.{product_same}
use Rattle.algebra.proofs.Main.{in_slots, ntt_inv_ntt, ntt_cong, inv_ntt_cong, ntt_product}

pub coefficient_listed : (neg : ℕ) (f : ℕ → ℕ) (j : ℕ) → j < 256 → coefficient (listed neg f) j ≡ f j % suc neg
unfolding listed
coefficient_listed neg f j h = get_or-map-range_with_len (λ j. f j % suc neg) 0 256 j j 0 h (omega arith)

pub listed_same : {neg : ℕ} (f : ℕ → ℕ) (j : ℕ) → j < 256 → Same neg (coefficient (listed neg f) j) (f j)
listed_same {neg} f j h = record { same = ap (λ t. t % suc neg) (coefficient_listed neg f j h) ∙ mod-mod (f j) (suc neg) }

pub listed_polynomial : (neg : ℕ) (f : ℕ → ℕ) → Polynomial neg (listed neg f)
unfolding listed
listed_polynomial neg f =
    record {
      size = length-map-range_with_len (λ j. f j % suc neg) 0 256;
      small = λ j h. rw (coefficient_listed neg f j h) (mod-lt (f j) (omega arith));
    }

-- a polynomial of reduced numbers is the list of any function equal to it modulo suc neg
pub listed_is : {neg : ℕ} (f : ℕ → ℕ) (xs : List ℕ) → Polynomial neg xs → ((j : ℕ) → j < 256 → Same neg (f j) (coefficient xs j)) → listed neg f ≡ xs
unfolding listed
listed_is {neg} f xs P h =
    sym (fill_by_all (λ j. f j % suc neg) xs 256 0 P.size (λ k l. sym ((h k l).same ∙ mod-eq_of_lt (P.small k l))))

pub listed_cong : {neg : ℕ} (f g : ℕ → ℕ) → ((j : ℕ) → j < 256 → Same neg (f j) (g j)) → listed neg f ≡ listed neg g
listed_cong {neg} f g h = listed_is f (listed neg g) (listed_polynomial neg g) (λ j k. h j k ⨾ same_sym (listed_same g j k))

-- the product of two transforms, slot by slot
pub base_product_is : (L neg w : ℕ) (f g : ℕ → ℕ) → BaseProducts L neg w f g (base_product L w f g)
unfolding base_product
base_product_is L neg w f g = record { at = λ i o h k. rw (digits_div i k, digits_mod i k) same_refl }

-- and it alone has those slots
pub base_products_same : {neg : ℕ} (L w : ℕ) → L ≤ 8 → (f g f' g' h h' : ℕ → ℕ) →
    ((j : ℕ) → j < 256 → Same neg (f j) (f' j)) → ((j : ℕ) → j < 256 → Same neg (g j) (g' j)) →
    BaseProducts L neg w f g h → BaseProducts L neg w f' g' h' → (j : ℕ) → j < 256 → Same neg (h j) (h' j)
base_products_same {neg} L w top f g f' g' h h' ef eg B C =
    in_slots L top (λ j. Same neg (h j) (h' j))
    (λ i o k l.
    B.at i o k l
    ⨾ product_same (size L) (gamma L w i) (λ q. f (i * size L + q)) (λ q. g (i * size L + q)) (λ q. f' (i * size L + q)) (λ q. g' (i * size L + q))
    (λ q r. ef _ (inside i q k r)) (λ q r. eg _ (inside i q k r)) o l
    ⨾ same_sym (C.at i o k l))
  where
    inside : (i q : ℕ) → i < 2 ^ L → q < size L → i * size L + q < 256
    inside i q k r = omega (arith, digits_lt k r, slots_fill L top)

module _ {neg : ℕ} (L w : ℕ) (top : L ≤ 8) (root : Same neg (w ^ (2 ^ L)) neg) (i : ℕ) (unit : Same neg (i * 2 ^ L) 1) where
  pub list_back : (xs : List ℕ) → Polynomial neg xs → inverse_transform L neg w i (transform L neg w xs) ≡ xs
  list_back xs P =
      listed_is _ xs P (λ j h.
      inv_ntt_cong L w top root i unit _ (ntt L neg w (coefficient xs)) (listed_same (ntt L neg w (coefficient xs))) j h
      ⨾ inv_ntt_ntt L w top root i unit (coefficient xs) j h)

  pub list_forward : (xs : List ℕ) → Polynomial neg xs → transform L neg w (inverse_transform L neg w i xs) ≡ xs
  list_forward xs P =
      listed_is _ xs P (λ j h.
      ntt_cong L w top root i unit _ (inv_ntt L neg w i (coefficient xs)) (listed_same (inv_ntt L neg w i (coefficient xs))) j h
      ⨾ ntt_inv_ntt L w top root i unit (coefficient xs) j h)

  -- between the transforms the product is that modulo X ^ 256 + 1
  pub list_product : (xs ys : List ℕ) → transform_product L neg w xs ys ≡ transform L neg w (polynomial_product neg (inverse_transform L neg w i xs) (inverse_transform L neg w i ys))
  list_product xs ys =
      listed_cong _ _ (λ j h.
      base_products_same L w top (coefficient xs) (coefficient ys) (ntt L neg w (back xs)) (ntt L neg w (back ys)) _ (ntt L neg w (product neg (back xs) (back ys)))
      (there xs) (there ys) (base_product_is L neg w (coefficient xs) (coefficient ys)) (ntt_product L w top root i unit (back xs) (back ys)) j h
      ⨾ ntt_cong L w top root i unit _ _ (λ k l. same_sym (listed_same (product neg (back xs) (back ys)) k l)) j h)
    where
      back : List ℕ → ℕ → ℕ
      back zs = coefficient (inverse_transform L neg w i zs)

      there : (zs : List ℕ) (j : ℕ) → j < 256 → Same neg (coefficient zs j) (ntt L neg w (back zs) j)
      there zs j h =
          same_sym (ntt_cong L w top root i unit _ _ (listed_same (inv_ntt L neg w i (coefficient zs))) j h ⨾ ntt_inv_ntt L w top root i unit (coefficient zs) j h)
