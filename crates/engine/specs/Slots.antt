-- The products of slots.
use Rattle.std.specs.Prelude.{◌≡◌, ℕ, ◌+◌, ◌*◌, ◌<◌, Bool, true, List, length, slice_index_or}
use Rattle.algebra.specs.Congruence.{Same}
use Rattle.algebra.specs.Slots.{gamma}
use Rattle.engine.specs.Rows.{held}

-- (x, y) is the product of (a0, a1) and (b0, b1) modulo X ^ 2 - c
pub record SlotProduct (neg c a0 a1 b0 b1 x y : ℕ) : Type 0 where
  pub first : Same neg x (a0 * b0 + a1 * b1 * c)
  pub second : Same neg y (a0 * b1 + a1 * b0)

-- the first n slots hold the products of the slots of f and g
pub record SlotsWritten {W : Type 0} (element : W → Bool) (meaning : W → ℕ) (neg w : ℕ) (f g : ℕ → ℕ) (n : ℕ) (ws ws' : List W) : Type 0 where
  pub size : length ws' ≡ length ws
  pub all : (k : ℕ) (d : W) → k < 2 * n → element (slice_index_or ws' k d) ≡ true
  pub here : (i : ℕ) → i < n → SlotProduct neg (gamma 7 w i) (f (2 * i)) (f (2 * i + 1)) (g (2 * i)) (g (2 * i + 1)) (held meaning ws' (2 * i)) (held meaning ws' (2 * i + 1))
