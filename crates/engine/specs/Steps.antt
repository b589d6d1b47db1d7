-- What one masked layer means for the transform as a whole.
use Rattle.std.specs.Prelude.{ℕ, ◌-◌, ◌*◌, ◌^◌, ◌<◌, cond, ◌||◌, List, [], ◌∷◌, ◌==◌}
use Rattle.algebra.specs.declared.Direction.TheVariants.{Forward, Inverse}
use Rattle.algebra.specs.Congruence.{Same}
use Rattle.algebra.specs.Layers.{layers, inv_stage}
use Rattle.algebra.specs.Masks.{Holds, ForwardLayer, InverseLayer, mask_after}

-- forward layer s took h to h', by the formulas; so, whatever f is, what held s - 1 layers of f under the masks of the list before
-- holds s layers of f under those of this list
pub record WentForward (neg w s : ℕ) (before list : List ℕ) (h h' : ℕ → ℕ) : Type 0 where
  pub layer : ForwardLayer 7 neg w s (mask_after 7 Forward (s - 1) before) (mask_after 7 Forward s list) h h'
  pub step : (f : ℕ → ℕ) → Holds neg w (mask_after 7 Forward (s - 1) before) (layers 7 neg w (s - 1) f) h →
      Holds neg w (mask_after 7 Forward s list) (layers 7 neg w s f) h'

-- the same of inverse layer s, where i is the inverse of 128
pub record WentBack (neg w i s : ℕ) (before list : List ℕ) (h h' : ℕ → ℕ) : Type 0 where
  pub layer : InverseLayer 7 neg w i s (mask_after 7 Inverse (s - 1) before) (mask_after 7 Inverse s list) h h'
  pub step : (f : ℕ → ℕ) → Holds neg w (mask_after 7 Inverse (s - 1) before) (inv_stage 7 neg w i (s - 1) f) h →
      Holds neg w (mask_after 7 Inverse s list) (inv_stage 7 neg w i s f) h'

-- x is the inverse of 128
abbrev pub InverseOf128 : (neg x : ℕ) → Type 0
InverseOf128 neg x = Same neg (x * 2 ^ 7) 1

-- equal modulo suc neg at each of the 256 positions
abbrev pub Agrees : (neg : ℕ) (f g : ℕ → ℕ) → Type 0
Agrees neg f g = (j : ℕ) → j < 256 → Same neg (f j) (g j)

-- the list that stands for no masks after this many layers
abbrev pub unmasked_list : ℕ → List ℕ
unmasked_list s = cond (s == 0 || s == 7) [] (0 ∷ [])
