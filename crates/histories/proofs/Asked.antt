-- What the argument over histories asks of the algebra of one guarded ring.
use Rattle.std.proofs.Common.{◌≡◌, ℕ, suc, ◌*◌, ◌^◌, ◌<◌, ◌≤◌, true, List}
use Rattle.algebra.specs.declared.Direction.{Direction}
use Rattle.algebra.specs.declared.Direction.TheVariants.{Forward, Inverse}
use Rattle.algebra.specs.Layers.{layers, inv_stage, ntt}
use Rattle.algebra.specs.Masks.{mask_after}
use Rattle.algebra.specs.Polynomials.{coefficient, listed}
use Rattle.guarded.specs.Model.{Guarded}
use Rattle.histories.specs.declared.register.Form.{Form}
use Rattle.histories.specs.declared.register.Form.TheVariants.{Empty, Natural, Transformed, Rising, Falling}
use Rattle.histories.specs.declared.register.Register.{Register}
use Rattle.histories.specs.Operations.{Base, neg, inverse_of_128, Good, remainders, transform_of, inverse_of, layer_under, witness}
use Rattle.histories.specs.Forms.{turns, done_of, form_after, in_form, whole}
use Rattle.histories.specs.Calls.{coefficients, checks, meanings, Operation, plus, minus, times, joins}
use Rattle.histories.specs.Serves.{combined, first_number, second_number}
use Rattle.histories.specs.Ledger.{result}

-- the direction of the next layer
abbrev pub way_of : Form → Direction
way_of Empty = Forward
way_of Natural = Forward
way_of Transformed = Inverse
way_of (Rising s) = Forward
way_of (Falling s) = Inverse

-- the values of the polynomial f after s layers of its transform, or of the inverse of its transform
unfoldable pub stage : Base → Direction → (s : ℕ) → List ℕ → ℕ → ℕ
stage B Forward s f = layers 7 (neg B) B.root s (coefficient f)
stage B Inverse s f = inv_stage 7 (neg B) B.root (inverse_of_128 B) s (ntt 7 (neg B) B.root (coefficient f))

-- what a register in the form F under the masks e should hold of the polynomial f
unfoldable pub expected : Base → Form → (e f : List ℕ) → List ℕ
expected B F e f = listed (neg B) (λ j. B.root ^ mask_after 7 (way_of F) (done_of F) e j * stage B (way_of F) (done_of F) f j)

-- from 1 to 6 layers in work
abbrev pub Fine : Form → Type 0
Fine Empty = Unit {0}
Fine Natural = Unit {0}
Fine Transformed = Unit {0}
Fine (Rising s) = (1 ≤ s) × (s ≤ 6)
Fine (Falling s) = (1 ≤ s) × (s ≤ 6)

-- the modulus of B divides that of M: a step over M is, remainder by remainder, the step over B
pub record Reduces (M B : Base) : Type 0 where
  pub layers_reduce : (way : Direction) (s : ℕ) (e e' x : List ℕ) → Good M x → remainders B (layer_under M way s e e' x) ≡ layer_under B way s e e' (remainders B x)
  pub results_reduce : (o : Operation) (x y : List ℕ) → Good M x → Good M y → remainders B (combined M o x y) ≡ combined B o (remainders B x) (remainders B y)

-- over B: the masked layers take what is expected to what is expected next; sums, differences and products go with the transform
pub record Transforms (B : Base) : Type 0 where
  pub positive : 0 < B.modulus
  pub result_good : (o : Operation) (f g : List ℕ) → Good B (result B o f g)
  pub expected_good : (F : Form) (e f : List ℕ) → Good B (expected B F e f)
  pub expected_whole : (F : Form) (e f : List ℕ) → whole F ≡ true → Good B f → expected B F e f ≡ in_form B F f
  pub steps : (way : Direction) (F : Form) (e e' f : List ℕ) → turns way F ≡ true → Fine F → Good B f →
      layer_under B way (suc (done_of F)) e e' (expected B F e f) ≡ expected B (form_after way (suc (done_of F))) e' f
  pub joined : (o : Operation) (F : Form) (f g : List ℕ) → joins o F ≡ true → Good B f → Good B g →
      combined B o (in_form B F f) (in_form B F g) ≡ in_form B F (result B o f g)

-- the other operand of an operation that is to be injective: any for a sum, and the transform of a J, a not 0, for a product
abbrev pub Regular : Base → Operation → List ℕ → Type 0
Regular B plus z = Unit {0}
Regular B minus z = Unit {0}
Regular B times z = (a : ℕ) × (0 < a) × (a < B.modulus) × (z ≡ transform_of B (witness B a 0))

-- the witnesses of the operands: those of a product have no J ^ 2
abbrev pub Simple : Operation → ℕ → ℕ → Type 0
Simple plus b b' = Unit {0}
Simple minus b b' = Unit {0}
Simple times b b' = (b ≡ 0) × (b' ≡ 0)

-- over the check modulus: each step is injective, and the witnesses compute
pub record Checks (B : Base) : Type 0 where
  pub layer_injective : (way : Direction) (F : Form) (e e' x y : List ℕ) → turns way F ≡ true → Fine F → Good B x → Good B y →
      layer_under B way (suc (done_of F)) e e' x ≡ layer_under B way (suc (done_of F)) e e' y → x ≡ y
  pub left_injective : (o : Operation) (x y z : List ℕ) → Good B x → Good B y → Good B z → Regular B o z → combined B o x z ≡ combined B o y z → x ≡ y
  pub right_injective : (o : Operation) (x y z : List ℕ) → Good B x → Good B y → Good B z → Regular B o z → combined B o z x ≡ combined B o z y → x ≡ y
  pub witness_good : (a b : ℕ) → Good B (witness B a b)
  pub witnesses : (o : Operation) (a b a' b' : ℕ) → a < B.modulus → b < B.modulus → a' < B.modulus → b' < B.modulus → Simple o b b' →
      result B o (witness B a b) (witness B a' b') ≡ witness B (first_number B.modulus o a a') (second_number B.modulus o a b a' b')

-- what a register should hold modulo p
abbrev pub owed : {W : Type 0} → Guarded W → (e : List ℕ) → Register → List ℕ
owed G e x = expected (checks G) x.form e (witness (checks G) x.a x.b)

pub record Algebra {W : Type 0} (G : Guarded W) : Type 0 where
  pub to_coefficients : Reduces (meanings G) coefficients
  pub to_checks : Reduces (meanings G) (checks G)
  pub on_coefficients : Transforms coefficients
  pub on_checks : Transforms (checks G)
  pub checking : Checks (checks G)
  pub inverse_good : (f : List ℕ) → Good coefficients (inverse_of coefficients f)
  pub inverse_back : (f : List ℕ) → Good coefficients f → transform_of coefficients (inverse_of coefficients f) ≡ f
