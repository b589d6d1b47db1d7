-- The last checks of a sum, a difference or a product, and what an accepted one names.
use Rattle.std.specs.Prelude.{◌≡◌, ℕ, List, ◌∷◌}
use Rattle.rings.specs.declared.refusal.Refusal.{Refusal}
use Rattle.rings.specs.declared.refusal.Refusal.TheVariants as refuse
use Rattle.rings.specs.Refusals.{Check, test}
use Rattle.histories.specs.declared.call.Join.{Join}
use Rattle.histories.specs.declared.call.Operation as declared_operation
use Rattle.histories.specs.declared.register.Register.{Register}
use Rattle.histories.specs.Forms.{same_form}
use Rattle.histories.specs.Calls.{joins, factors, Operation}

-- the forms of the operands, and of a product the factors
abbrev pub of_operands : (ℕ → Register) → Operation → (a b : ℕ) → List (Check Refusal)
of_operands S o a b =
    test (joins o (S a).form) (refuse.Form a) ∷ test (same_form (S a).form (S b).form) (refuse.Form b) ∷ factors S o a b

-- the join of the registers with these numbers
pub record Joins (operation : declared_operation.Operation) (d a b : ℕ) (join : Join) : Type 0 where
  pub operation_is : join.operation ≡ operation
  pub d_is : join.d.number ≡ d
  pub a_is : join.a.number ≡ a
  pub b_is : join.b.number ≡ b
