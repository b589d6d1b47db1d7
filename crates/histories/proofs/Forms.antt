-- Forms, and what a register should hold in each.
use Rattle.std.proofs.Common.{◌≡◌, ℕ, suc, pred, ◌-◌, ◌≤◌, Bool, true, false, cond, eqb, ◌⊎◌, List, sym, refl, inl, inr, arith}
use Rattle.std.proofs.lemmas.Bool.{true≢false, false≢true, eqb-true, eqb-false}
use Rattle.algebra.specs.declared.Direction.{Direction}
use Rattle.algebra.specs.declared.Direction.TheVariants.{Forward, Inverse}
use Rattle.histories.specs.declared.register.Form.{Form}
use Rattle.histories.specs.declared.register.Form.TheVariants.{Empty, Natural, Transformed, Rising, Falling}
use Rattle.histories.specs.Forms.{in_work, occupied, whole, same_form, is_transformed, is_natural, turns, done_of, form_after}
use Rattle.histories.specs.Calls.{Operation, plus, minus, times, joins}
use Rattle.algebra.specs.Masks.{mask_after}
use Rattle.histories.specs.Operations.{Base}
use Rattle.histories.proofs.Asked.{Fine, expected}

-- the form after the next layer
abbrev pub next : Direction → Form → Form
next way F = form_after way (suc (done_of F))

-- the layers of its transform that a polynomial has had
abbrev pub layers_of : Form → ℕ
layers_of Empty = 0
layers_of Natural = 0
layers_of Transformed = 7
layers_of (Rising s) = s
layers_of (Falling s) = 7 - s

fine_after : (way : Direction) (s : ℕ) → 1 ≤ s → s ≤ 7 → Fine (form_after way s)
fine_after Forward s h k = go (eqb s 7) refl
  where
    go : (b : Bool) → eqb s 7 ≡ b → Fine (cond b Transformed (Rising s))
    go true e = tt
    go false e = omega (arith, eqb-false s 7 e)
fine_after Inverse s h k = go (eqb s 7) refl
  where
    go : (b : Bool) → eqb s 7 ≡ b → Fine (cond b Natural (Falling s))
    go true e = tt
    go false e = omega (arith, eqb-false s 7 e)

pub done_most : (F : Form) → Fine F → done_of F ≤ 6
done_most Empty h = omega arith
done_most Natural h = omega arith
done_most Transformed h = omega arith
done_most (Rising s) h = h.1
done_most (Falling s) h = h.1

pub fine_next : (way : Direction) (F : Form) → Fine F → Fine (next way F)
fine_next way F h = fine_after way (suc (done_of F)) (omega arith) (omega (arith, done_most F h))

pub occupied_next : (way : Direction) (F : Form) → occupied (next way F) ≡ true
occupied_next Forward F = go (eqb (suc (done_of F)) 7)
  where
    go : (b : Bool) → occupied (cond b Transformed (Rising (suc (done_of F)))) ≡ true
    go true = refl
    go false = refl
occupied_next Inverse F = go (eqb (suc (done_of F)) 7)
  where
    go : (b : Bool) → occupied (cond b Natural (Falling (suc (done_of F)))) ≡ true
    go true = refl
    go false = refl

rises : (s : ℕ) → layers_of (form_after Forward (suc s)) ≡ suc s
rises s = go (eqb (suc s) 7) refl
  where
    go : (b : Bool) → eqb (suc s) 7 ≡ b → layers_of (cond b Transformed (Rising (suc s))) ≡ suc s
    go true e = sym (eqb-true (suc s) 7 e)
    go false e = refl

falls : (s : ℕ) → layers_of (form_after Inverse (suc s)) ≡ pred (7 - s)
falls s = go (eqb (suc s) 7) refl
  where
    go : (b : Bool) → eqb (suc s) 7 ≡ b → layers_of (cond b Natural (Falling (suc s))) ≡ pred (7 - s)
    go true e = omega (arith, eqb-true (suc s) 7 e)
    go false e = omega arith

pub layers_forward : (F : Form) → turns Forward F ≡ true → suc (layers_of F) ≡ layers_of (next Forward F)
layers_forward Empty h = absurd (false≢true h)
layers_forward Natural h = refl
layers_forward Transformed h = absurd (false≢true h)
layers_forward (Rising s) h = sym (rises s)
layers_forward (Falling s) h = absurd (false≢true h)

pub layers_inverse : (F : Form) → turns Inverse F ≡ true → pred (layers_of F) ≡ layers_of (next Inverse F)
layers_inverse Empty h = absurd (false≢true h)
layers_inverse Natural h = absurd (false≢true h)
layers_inverse Transformed h = refl
layers_inverse (Rising s) h = absurd (false≢true h)
layers_inverse (Falling s) h = sym (falls s)

pub whole_idle : (F : Form) → whole F ≡ true → in_work F ≡ false
whole_idle Empty h = refl
whole_idle Natural h = refl
whole_idle Transformed h = refl
whole_idle (Rising s) h = absurd (false≢true h)
whole_idle (Falling s) h = absurd (false≢true h)

pub joins_whole : (o : Operation) (F : Form) → joins o F ≡ true → whole F ≡ true
joins_whole plus F h = h
joins_whole minus F h = h
joins_whole times Empty h = h
joins_whole times Natural h = refl
joins_whole times Transformed h = refl
joins_whole times (Rising s) h = h
joins_whole times (Falling s) h = h

pub times_transformed : (F : Form) → is_transformed F ≡ true → F ≡ Transformed
times_transformed Empty h = absurd (false≢true h)
times_transformed Natural h = absurd (false≢true h)
times_transformed Transformed h = refl
times_transformed (Rising s) h = absurd (false≢true h)
times_transformed (Falling s) h = absurd (false≢true h)

natural_only : (F : Form) → is_natural F ≡ true → F ≡ Natural
natural_only Empty h = absurd (false≢true h)
natural_only Natural h = refl
natural_only Transformed h = absurd (false≢true h)
natural_only (Rising s) h = absurd (false≢true h)
natural_only (Falling s) h = absurd (false≢true h)

pub same_forms : (F E : Form) → same_form F E ≡ true → F ≡ E
same_forms Empty E h = absurd (false≢true h)
same_forms Natural Empty h = absurd (false≢true h)
same_forms Natural Natural h = refl
same_forms Natural Transformed h = absurd (false≢true h)
same_forms Natural (Rising s) h = absurd (false≢true h)
same_forms Natural (Falling s) h = absurd (false≢true h)
same_forms Transformed Empty h = absurd (false≢true h)
same_forms Transformed Natural h = absurd (false≢true h)
same_forms Transformed Transformed h = refl
same_forms Transformed (Rising s) h = absurd (false≢true h)
same_forms Transformed (Falling s) h = absurd (false≢true h)
same_forms (Rising s) E h = absurd (false≢true h)
same_forms (Falling s) E h = absurd (false≢true h)

-- a whole form is natural or transformed
pub whole_cases : (F : Form) → whole F ≡ true → (F ≡ Natural) ⊎ (F ≡ Transformed)
whole_cases Empty h = absurd (false≢true h)
whole_cases Natural h = inl refl
whole_cases Transformed h = inr refl
whole_cases (Rising s) h = absurd (false≢true h)
whole_cases (Falling s) h = absurd (false≢true h)

-- a register that is not in work does not feel the masks
pub expected_idle : (B : Base) (F : Form) (e e' f : List ℕ) → in_work F ≡ false → expected B F e f ≡ expected B F e' f
unfolding expected mask_after
expected_idle B Empty e e' f h = refl
expected_idle B Natural e e' f h = refl
expected_idle B Transformed e e' f h = refl
expected_idle B (Rising s) e e' f h = absurd (true≢false h)
expected_idle B (Falling s) e e' f h = absurd (true≢false h)
