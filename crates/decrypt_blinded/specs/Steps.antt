-- What the steps of a decryption do to a workspace that nothing has struck.
use Rattle.std.specs.Prelude.{◌≡◌, ℕ, zero, suc, List}
use Rattle.algebra.specs.declared.Direction.{Direction}
use Rattle.algebra.specs.declared.Direction.TheVariants.{Forward, Inverse}
use Rattle.guarded.specs.Model.{Guarded}
use Rattle.histories.specs.Operations.{sum_of, product_of, inverse_of}
use Rattle.histories.specs.Calls.{coefficients, State}
use Rattle.histories.specs.Serves.{put}
use Rattle.histories.specs.Ledger.{Held, holds}
use Rattle.histories.specs.Tracked.{Tracked, Keeps}
use Rattle.decryption.specs.Restored.{part}

-- how many layers of its transform a register has had before all layers, and after them
abbrev pub layers_before : Direction → ℕ
layers_before Forward = 0
layers_before Inverse = 7

abbrev pub layers_after : Direction → ℕ
layers_after Forward = 7
layers_after Inverse = 0

-- u[0] * s[0] + .. + u[k] * s[k]: the sum of the first suc k products, where the row ss holds transforms
abbrev pub products : (us ss : List ℕ) (k : ℕ) → List ℕ
products us ss zero = product_of coefficients (part us 0) (inverse_of coefficients (part ss 0))
products us ss (suc k) =
    sum_of coefficients (products us ss k) (product_of coefficients (part us (suc k)) (inverse_of coefficients (part ss (suc k))))

module _ {W : Type 0} (G : Guarded W) (s : State) (words : List W) (s' : State) (words' : List W) where
  -- register r has had all layers in this direction
  abbrev pub Turned : Direction → (r : ℕ) → Type 0
  Turned way r =
      (L : ℕ → Held) (f : List ℕ) → L r ≡ holds f (layers_before way) → Tracked G s words L →
      Tracked G s' words' (put r (holds f (layers_after way)) L)

  -- register 0 holds the transform of u, register 1 that of which xs are the values
  abbrev pub Paired : (u xs : List ℕ) → Type 0
  Paired u xs =
      (L : ℕ → Held) → Tracked G s words L →
      Tracked G s' words' (put 1 (holds (inverse_of coefficients xs) 7) (put 0 (holds u 7) L))

  -- register 2 holds the transform of the sum of the first suc k products
  abbrev pub Summed : (us ss : List ℕ) (k : ℕ) → Type 0
  Summed us ss k = (L : ℕ → Held) → Tracked G s words L → Keeps G s' words' 2 (products us ss k) 7
