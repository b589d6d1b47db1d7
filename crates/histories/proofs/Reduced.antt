-- Remainders go through the layers, sums, differences and products: where the modulus of B divides that of M, a step over M leaves the
-- step over B.
use Rattle.std.proofs.Common.{◌≡◌, ℕ, zero, suc, ◌+◌, ◌-◌, ◌%◌, ◌<◌, Bool, true, false, cond, ltb, List, [], ◌∷◌, sym, refl}
use native.Mathlib.Nat.{zero-mod}
use Rattle.algebra.specs.declared.Direction.{Direction}
use Rattle.algebra.specs.declared.Direction.TheVariants.{Forward, Inverse}
use Rattle.algebra.specs.Congruence.{Same}
use Rattle.algebra.specs.Slots.{size, gamma}
use Rattle.algebra.specs.Product.{turned, product_mod, base_product}
use Rattle.algebra.specs.Masks.{masked_forward, masked_inverse, masked_layer}
use Rattle.algebra.specs.Polynomials.{coefficient, listed}
use Rattle.algebra.proofs.Modular.{same_of, same_refl, same_sym, ◌⨾◌, same_add, same_mul, same_pow}
use Rattle.algebra.proofs.Sums.{sum_same}
use Rattle.algebra.proofs.Lists.{listed_same, listed_is, listed_polynomial}
use Rattle.histories.specs.Operations.{Base, neg, inverse_of_128, remainders, sum_of, difference_of, slot_product_of, layer_under}
use Rattle.histories.specs.Calls.{Operation, plus, minus, times}
use Rattle.histories.specs.Serves.{combined}
use Rattle.histories.proofs.Basics.{remainders_good}
use Rattle.histories.proofs.Together.{mod_same}

same_cond : {neg : ℕ} (b : Bool) {x y x' y' : ℕ} → Same neg x x' → Same neg y y' → Same neg (cond b x y) (cond b x' y')
same_cond true h g = h
same_cond false h g = g

coefficient_remainders : (B : Base) (xs : List ℕ) (j : ℕ) → coefficient (remainders B xs) j ≡ coefficient xs j % B.modulus
coefficient_remainders B [] j = sym (zero-mod B.modulus)
coefficient_remainders B (x ∷ xs) zero = refl
coefficient_remainders B (x ∷ xs) (suc j) = coefficient_remainders B xs j

turned_both : {neg : ℕ} (n c c' : ℕ) (b b' : ℕ → ℕ) → Same neg c c' → ((j : ℕ) → Same neg (b j) (b' j)) → (i k : ℕ) → Same neg (turned n c b i k) (turned n c' b' i k)
unfolding turned
turned_both n c c' b b' hc hb i k = same_cond (ltb k i) (same_mul hc (hb (n + k - i))) (hb (k - i))

product_both : {neg : ℕ} (n c c' : ℕ) (a a' b b' : ℕ → ℕ) → Same neg c c' → ((j : ℕ) → Same neg (a j) (a' j)) → ((j : ℕ) → Same neg (b j) (b' j)) →
    (k : ℕ) → Same neg (product_mod n c a b k) (product_mod n c' a' b' k)
unfolding product_mod
product_both n c c' a a' b b' hc ha hb k = sum_same n _ _ (λ i q. same_mul (ha i) (turned_both n c c' b b' hc hb i k))

module _ (M B : Base) (pos : 0 < B.modulus) (down : (x y : ℕ) → Same (neg M) x y → Same (neg B) x y) (roots : Same (neg B) M.root B.root)
    (minuses : Same (neg B) (neg M) (neg B)) (inverses : Same (neg B) (inverse_of_128 M) (inverse_of_128 B)) where
  remainders_listed : (f g : ℕ → ℕ) → ((j : ℕ) → j < 256 → Same (neg B) (f j) (g j)) → remainders B (listed (neg M) f) ≡ listed (neg B) g
  remainders_listed f g h =
      sym (listed_is g (remainders B (listed (neg M) f)) (remainders_good B pos (listed (neg M) f) (listed_polynomial (neg M) f).size) (λ j l.
      same_sym (same_of (coefficient_remainders B (listed (neg M) f) j) ⨾ mod_same B.modulus (coefficient (listed (neg M) f) j) pos
      ⨾ down _ _ (listed_same f j l) ⨾ h j l)))

  near : (x : List ℕ) (j : ℕ) → Same (neg B) (coefficient x j) (coefficient (remainders B x) j)
  near x j = same_sym (same_of (coefficient_remainders B x j) ⨾ mod_same B.modulus (coefficient x j) pos)

  layer_near : (way : Direction) (s : ℕ) (e e' x : List ℕ) (j : ℕ) →
      Same (neg B) (masked_layer 7 (neg M) M.root (inverse_of_128 M) way s e e' (coefficient x) j)
      (masked_layer 7 (neg B) B.root (inverse_of_128 B) way s e e' (coefficient (remainders B x)) j)
  unfolding masked_layer masked_forward masked_inverse
  layer_near Forward s e e' x j =
      same_cond _ (same_add (same_mul (same_pow roots _) (near x _)) (same_mul (same_pow roots _) (near x _)))
      (same_add (same_mul (same_pow roots _) (near x _)) (same_mul minuses (same_mul (same_pow roots _) (near x _))))
  layer_near Inverse s e e' x j =
      same_mul (same_cond (ltb s 7) same_refl inverses)
      (same_cond _ (same_mul (same_pow roots _) (same_add (near x _) (near x _)))
      (same_mul (same_pow roots _) (same_add (near x _) (same_mul minuses (near x _)))))

  pub layers_reduce : (way : Direction) (s : ℕ) (e e' x : List ℕ) → remainders B (layer_under M way s e e' x) ≡ layer_under B way s e e' (remainders B x)
  unfolding layer_under
  layers_reduce way s e e' x = remainders_listed _ _ (λ j l. layer_near way s e e' x j)

  slots_near : (x y : List ℕ) (j : ℕ) →
      Same (neg B) (base_product 7 M.root (coefficient x) (coefficient y) j) (base_product 7 B.root (coefficient (remainders B x)) (coefficient (remainders B y)) j)
  unfolding base_product gamma
  slots_near x y j = product_both (size 7) _ _ _ _ _ _ (same_pow roots _) (λ k. near x _) (λ k. near y _) (j % size 7)

  pub results_reduce : (o : Operation) (x y : List ℕ) → remainders B (combined M o x y) ≡ combined B o (remainders B x) (remainders B y)
  unfolding sum_of difference_of slot_product_of
  results_reduce plus x y = remainders_listed _ _ (λ j l. same_add (near x j) (near y j))
  results_reduce minus x y = remainders_listed _ _ (λ j l. same_add (near x j) (same_mul minuses (near y j)))
  results_reduce times x y = remainders_listed _ _ (λ j l. slots_near x y j)
