-- The forms of a register, and which of them suit a call.
use Rattle.std.specs.Prelude.{ℕ, Bool, true, false, cond, ◌&&◌, ◌||◌, List, ◌==◌}
use Rattle.algebra.specs.declared.Direction.{Direction}
use Rattle.algebra.specs.declared.Direction.TheVariants.{Forward, Inverse}
use Rattle.histories.specs.declared.register.Form.{Form}
use Rattle.histories.specs.declared.register.Form.TheVariants.{Empty, Natural, Transformed, Rising, Falling}
use Rattle.histories.specs.Operations.{Base, transform_of}

abbrev pub occupied : Form → Bool
occupied Empty = false
occupied Natural = true
occupied Transformed = true
occupied (Rising s) = true
occupied (Falling s) = true

abbrev pub in_work : Form → Bool
in_work Empty = false
in_work Natural = false
in_work Transformed = false
in_work (Rising s) = true
in_work (Falling s) = true

abbrev pub is_natural : Form → Bool
is_natural Empty = false
is_natural Natural = true
is_natural Transformed = false
is_natural (Rising s) = false
is_natural (Falling s) = false

abbrev pub is_transformed : Form → Bool
is_transformed Empty = false
is_transformed Natural = false
is_transformed Transformed = true
is_transformed (Rising s) = false
is_transformed (Falling s) = false

-- natural or transformed
abbrev pub whole : Form → Bool
whole F = is_natural F || is_transformed F

-- both natural or both transformed
abbrev pub same_form : Form → Form → Bool
same_form F E = (is_natural F && is_natural E) || (is_transformed F && is_transformed E)

-- the forms from which a layer runs in this direction
abbrev pub turns : Direction → Form → Bool
turns Forward Empty = false
turns Forward Natural = true
turns Forward Transformed = false
turns Forward (Rising s) = true
turns Forward (Falling s) = false
turns Inverse Empty = false
turns Inverse Natural = false
turns Inverse Transformed = true
turns Inverse (Rising s) = false
turns Inverse (Falling s) = true

-- the layers that are done in the direction of the next one
abbrev pub done_of : Form → ℕ
done_of Empty = 0
done_of Natural = 0
done_of Transformed = 0
done_of (Rising s) = s
done_of (Falling s) = s

-- the form after layer s
abbrev pub form_after : Direction → (s : ℕ) → Form
form_after Forward s = cond (s == 7) Transformed (Rising s)
form_after Inverse s = cond (s == 7) Natural (Falling s)

-- what a whole form holds of a polynomial
abbrev pub in_form : Base → Form → List ℕ → List ℕ
in_form B Empty f = f
in_form B Natural f = f
in_form B Transformed f = transform_of B f
in_form B (Rising s) f = f
in_form B (Falling s) f = f
