-- Worked values: what the definitions give at chosen numbers.
use Rattle.std.specs.Prelude.{ℕ, ◌%◌, ◌^◌, ◌<◌, ◌≡◌, cond, ◌||◌, [], ◌∷◌, eqb}
use Rattle.algebra.specs.declared.Direction.TheVariants.{Forward}
use Rattle.algebra.specs.Slots.{gamma}
use Rattle.algebra.specs.Product.{product, ones}
use Rattle.algebra.specs.Masks.{masked_layer}
use Rattle.guarded.specs.Model.{Lifted}
use Rattle.guarded.specs.RedundantRing.{redundant_model}

-- X ^ n, and a number at every coefficient
abbrev pub x_to : (n k : ℕ) → ℕ
x_to n k = cond (eqb k n) 1 0

abbrev pub everywhere : (c k : ℕ) → ℕ
everywhere c k = c

pub record Figures : Type 0 where
  pub root : 17 ^ 64 % 3329 ≡ 1729
  pub slot_0 : gamma 7 17 0 % 3329 ≡ 17
  pub slot_1 : gamma 7 17 1 % 3329 ≡ 3312
  -- X ^ 255 times X is -1
  pub wraps : (k : ℕ) → k < 256 → product 3328 (x_to 255) (x_to 1) k % 3329 ≡ cond (eqb k 0) 3328 0
  -- forward layer 1 of the polynomial 1 under the masks [3]
  pub layer : (k : ℕ) → k < 256 → masked_layer 7 3328 17 3303 Forward 1 [] (3 ∷ []) (x_to 0) k % 3329 ≡ cond (eqb k 0 || eqb k 128) 1584 0
  -- lift(s, c, k) in the redundant ring of 7681
  pub lift_1_1 : Lifted (redundant_model 7681 1) 1 1 0 1
  pub lift_1_0 : Lifted (redundant_model 7681 1) 1 0 0 10522970
  pub lift_0_1 : Lifted (redundant_model 7681 1) 0 1 0 15047080
  pub lift_2_1 : Lifted (redundant_model 7681 3) 2 1 2 61663069
  -- J J modulo 7681
  pub square_0 : product 7680 ones ones 0 % 7681 ≡ 7427
  pub square_127 : product 7680 ones ones 127 % 7681 ≡ 0
  pub square_255 : product 7680 ones ones 255 % 7681 ≡ 256
  -- 2 J times 3 J modulo 7681
  pub witnesses_0 : product 7680 (everywhere 2) (everywhere 3) 0 % 7681 ≡ 6157
  pub witnesses_255 : product 7680 (everywhere 2) (everywhere 3) 255 % 7681 ≡ 1536
