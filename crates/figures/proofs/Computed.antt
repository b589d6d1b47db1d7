-- antt computes each figure; those over all 256 coefficients as one test.
use Prim.Native.Nat.{◌%◌}
use mathlib.Core.Path.{refl}
use mathlib.Core.Bool.{cond, ◌||◌}
use mathlib.Core.List.{[], ◌∷◌}
use lib.Dec.{T, eqb, eqb→eq}
use Rattle.algebra.specs.declared.Direction.TheVariants.{Forward}
use Rattle.algebra.specs.Sum.{sum}
use Rattle.algebra.specs.Layers.{bitrev, forward_exponent}
use Rattle.algebra.specs.Slots.{gamma}
use Rattle.algebra.specs.Product.{turned, product_mod, product}
use Rattle.algebra.specs.Masks.{mask_difference, carrying_len, mask_after, masked_forward, masked_layer}
use Rattle.algebra.proofs.Primes.{all, all_at}
use Rattle.figures.specs.Figures.{x_to, Figures}

wraps_test : T (all 256 (λ k. eqb (product 3328 (x_to 255) (x_to 1) k % 3329) (cond (eqb k 0) 3328 0)))
unfolding product_mod turned sum
wraps_test = tt

layer_test : T (all 256 (λ k. eqb (masked_layer 7 3328 17 3303 Forward 1 [] (3 ∷ []) (x_to 0) k % 3329) (cond (eqb k 0 || eqb k 128) 1584 0)))
unfolding masked_layer masked_forward mask_after mask_difference carrying_len forward_exponent bitrev
layer_test = tt

pub figures : Figures
unfolding gamma bitrev product_mod turned sum
figures =
    record {
      root = refl;
      slot_0 = refl;
      slot_1 = refl;
      wraps = λ k h. eqb→eq _ _ (all_at 256 (λ k. eqb (product 3328 (x_to 255) (x_to 1) k % 3329) (cond (eqb k 0) 3328 0)) wraps_test k h);
      layer = λ k h.
          eqb→eq _ _
          (all_at 256 (λ k. eqb (masked_layer 7 3328 17 3303 Forward 1 [] (3 ∷ []) (x_to 0) k % 3329) (cond (eqb k 0 || eqb k 128) 1584 0)) layer_test k h);
      lift_1_1 = record { element = refl; coefficient = refl; check = refl; number = refl };
      lift_1_0 = record { element = refl; coefficient = refl; check = refl; number = refl };
      lift_0_1 = record { element = refl; coefficient = refl; check = refl; number = refl };
      lift_2_1 = record { element = refl; coefficient = refl; check = refl; number = refl };
      square_0 = refl;
      square_127 = refl;
      square_255 = refl;
      witnesses_0 = refl;
      witnesses_255 = refl;
    }
