-- The masked layers take what is expected to what is expected next.
use Rattle.std.proofs.Common.{◌≡◌, ℕ, suc, ◌*◌, ◌^◌, ◌<◌, Bool, true, false, cond, eqb, List, sym, refl, ◌∙◌, subst, arith}
use native.Mathlib.Nat.{pow-zero}
use Rattle.std.proofs.lemmas.Bool.{false≢true, eqb-true}
use Rattle.algebra.specs.declared.Direction.{Direction}
use Rattle.algebra.specs.declared.Direction.TheVariants.{Forward, Inverse}
use Rattle.algebra.specs.Congruence.{Same}
use Rattle.algebra.specs.Layers.{layers, inv_layers, inv_stage, ntt, inv_ntt}
use Rattle.algebra.specs.Masks.{Holds, mask_after, masked_layer}
use Rattle.algebra.specs.Polynomials.{coefficient, listed}
use Rattle.algebra.specs.Theorems.{Laws}
use Rattle.algebra.proofs.Modular.{same_of, ◌⨾◌}
use Rattle.algebra.proofs.Lists.{listed_same, listed_is, listed_cong, listed_polynomial}
use Rattle.algebra.proofs.MaskLists.{mask_none, mask_end}
use Rattle.algebra.proofs.Theorems.{transforms}
use Rattle.histories.specs.declared.register.Form.{Form}
use Rattle.histories.specs.declared.register.Form.TheVariants.{Empty, Natural, Transformed, Rising, Falling}
use Rattle.histories.specs.Operations.{Base, neg, inverse_of_128, Good, transform_of, layer_under}
use Rattle.histories.specs.Forms.{turns, done_of, form_after, in_form, whole}
use Rattle.histories.proofs.Asked.{way_of, stage, expected, Fine}
use Rattle.histories.proofs.Forms.{done_most}

pub expected_good : (B : Base) (F : Form) (e f : List ℕ) → Good B (expected B F e f)
unfolding expected
expected_good B F e f = listed_polynomial (neg B) _

-- before any layer nothing is masked
first_stage : (B : Base) (way : Direction) (e f : List ℕ) (j : ℕ) → B.root ^ mask_after 7 way 0 e j * stage B way 0 f j ≡ stage B way 0 f j
first_stage B way e f j = rw (mask_none 7 way e j, pow-zero B.root) (omega arith)

start_forward : (B : Base) (f : List ℕ) (j : ℕ) → stage B Forward 0 f j ≡ coefficient f j
unfolding stage layers
start_forward B f j = refl

start_inverse : (B : Base) (f : List ℕ) (j : ℕ) → stage B Inverse 0 f j ≡ ntt 7 (neg B) B.root (coefficient f) j
unfolding stage inv_stage inv_layers
start_inverse B f j = omega arith

pub expected_whole : (B : Base) (F : Form) (e f : List ℕ) → whole F ≡ true → Good B f → expected B F e f ≡ in_form B F f
unfolding expected transform_of
expected_whole B Empty e f h g = absurd (false≢true h)
expected_whole B Natural e f h g = listed_is _ f g (λ j l. same_of (first_stage B Forward e f j ∙ start_forward B f j))
expected_whole B Transformed e f h g = listed_cong _ _ (λ j l. same_of (first_stage B Inverse e f j ∙ start_inverse B f j))
expected_whole B (Rising s) e f h g = absurd (false≢true h)
expected_whole B (Falling s) e f h g = absurd (false≢true h)

module _ (B : Base) (root : Same (neg B) (B.root ^ (2 ^ 7)) (neg B)) (unit : Same (neg B) (inverse_of_128 B * 2 ^ 7) 1) where
  laws : Laws 7 (neg B) B.root (inverse_of_128 B)
  laws = transforms 7 (neg B) B.root (inverse_of_128 B) (omega arith) root unit

  holds : (F : Form) (e f : List ℕ) → Holds (neg B) B.root (mask_after 7 (way_of F) (done_of F) e) (stage B (way_of F) (done_of F) f) (coefficient (expected B F e f))
  unfolding expected
  holds F e f = record { at = λ j l. listed_same _ j l }

  step : (way : Direction) (s : ℕ) → s < 7 → (e e' f : List ℕ) (h : ℕ → ℕ) → Holds (neg B) B.root (mask_after 7 way s e) (stage B way s f) h →
      Holds (neg B) B.root (mask_after 7 way (suc s) e') (stage B way (suc s) f) (masked_layer 7 (neg B) B.root (inverse_of_128 B) way (suc s) e e' h)
  unfolding stage
  step Forward s l e e' f h H = laws.forward_step s l e e' (coefficient f) h _ H (laws.forward_layers s l e e' h)
  step Inverse s l e e' f h H = laws.inverse_step s l e e' (ntt 7 (neg B) B.root (coefficient f)) h _ H (laws.inverse_layers s l e e' h)

  -- after the last layer
  last_forward : (f : List ℕ) (j : ℕ) → stage B Forward 7 f j ≡ stage B Inverse 0 f j
  unfolding stage inv_stage inv_layers ntt
  last_forward f j = omega arith

  last_inverse : (f : List ℕ) (j : ℕ) → j < 256 → Same (neg B) (stage B Inverse 7 f j) (stage B Forward 0 f j)
  unfolding stage inv_stage inv_ntt layers
  last_inverse f j l = laws.inverse_after (coefficient f) j l

  done_all : (way : Direction) (e f : List ℕ) (h : ℕ → ℕ) (F : Form) → done_of F ≡ 0 → ((j : ℕ) → j < 256 → Same (neg B) (stage B way 7 f j) (stage B (way_of F) 0 f j)) →
      Holds (neg B) B.root (mask_after 7 way 7 e) (stage B way 7 f) h → listed (neg B) h ≡ expected B F e f
  unfolding expected
  done_all way e f h F z same H =
      listed_cong _ _ (λ j l.
      H.at j l ⨾ same_of (rw (mask_end 7 way e j, pow-zero B.root) (omega arith)) ⨾ same j l
      ⨾ same_of (rw (z) (sym (first_stage B (way_of F) e f j))))

  after : (way : Direction) (s : ℕ) (e f : List ℕ) (h : ℕ → ℕ) → Holds (neg B) B.root (mask_after 7 way (suc s) e) (stage B way (suc s) f) h →
      listed (neg B) h ≡ expected B (form_after way (suc s)) e f
  unfolding expected
  after Forward s e f h H = go (eqb (suc s) 7) refl
    where
      go : (b : Bool) → eqb (suc s) 7 ≡ b → listed (neg B) h ≡ expected B (cond b Transformed (Rising (suc s))) e f
      go true q =
          done_all Forward e f h Transformed refl (λ j l. same_of (last_forward f j))
          (subst (λ (n : ℕ). Holds (neg B) B.root (mask_after 7 Forward n e) (stage B Forward n f) h) (eqb-true (suc s) 7 q) H)
      go false q = listed_cong _ _ H.at
  after Inverse s e f h H = go (eqb (suc s) 7) refl
    where
      go : (b : Bool) → eqb (suc s) 7 ≡ b → listed (neg B) h ≡ expected B (cond b Natural (Falling (suc s))) e f
      go true q =
          done_all Inverse e f h Natural refl (last_inverse f)
          (subst (λ (n : ℕ). Holds (neg B) B.root (mask_after 7 Inverse n e) (stage B Inverse n f) h) (eqb-true (suc s) 7 q) H)
      go false q = listed_cong _ _ H.at

  pub way_is : (way : Direction) (F : Form) → turns way F ≡ true → way_of F ≡ way
  way_is Forward Empty t = refl
  way_is Forward Natural t = refl
  way_is Forward Transformed t = absurd (false≢true t)
  way_is Forward (Rising s) t = refl
  way_is Forward (Falling s) t = absurd (false≢true t)
  way_is Inverse Empty t = absurd (false≢true t)
  way_is Inverse Natural t = absurd (false≢true t)
  way_is Inverse Transformed t = refl
  way_is Inverse (Rising s) t = absurd (false≢true t)
  way_is Inverse (Falling s) t = refl

  pub steps : (way : Direction) (F : Form) (e e' f : List ℕ) → turns way F ≡ true → Fine F →
      layer_under B way (suc (done_of F)) e e' (expected B F e f) ≡ expected B (form_after way (suc (done_of F))) e' f
  unfolding layer_under
  steps way F e e' f t fine =
      after way (done_of F) e' f _
      (step way (done_of F) (omega (arith, done_most F fine)) e e' f (coefficient (expected B F e f))
      (subst (λ (d : Direction). Holds (neg B) B.root (mask_after 7 d (done_of F) e) (stage B d (done_of F) f) (coefficient (expected B F e f))) (way_is way F t) (holds F e f)))
