-- What the engine wrote is what the plain calls promise.
use Rattle.std.proofs.Common.{◌≡◌, ℕ, zero, suc, pred, ◌+◌, ◌-◌, ◌*◌, ◌≤◌, ltb, List, length, sym, refl, ap, ◌∙◌, subst, arith}
use mathlib.Core.Option.{none}
use Rattle.algebra.specs.declared.Direction.TheVariants.{Forward, Inverse}
use Rattle.algebra.specs.Layers.{ntt, inv_ntt}
use Rattle.algebra.specs.Masks.{mask_after, ForwardLayer, InverseLayer}
use Rattle.algebra.specs.Product.{BaseProducts}
use Rattle.algebra.specs.Polynomials.{coefficient, transform_product}
use Rattle.algebra.proofs.Modular.{same_refl, ◌⨾◌}
use Rattle.algebra.proofs.Lists.{base_product_is, base_products_same}
use Rattle.algebra.proofs.MaskLists.{forward_layer_one, inverse_layer_one}
use Rattle.algebra.proofs.Theorems.{ml_kem}
use Rattle.rings.specs.Moduli.{plain_root}
use Rattle.rings.specs.Refusals.{flaw, below}
use Rattle.engine.specs.Rows.{Elements, held}
use Rattle.engine.specs.Steps.{Agrees, InverseOf128, WentForward, WentBack}
use Rattle.transform.specs.Results.{ntt_of, inverse_of, Transformed, Inverted, Multiplied, Layered}
use Rattle.transform.proofs.Plains.{held_is, listed_by, polynomial_in}

abbrev same_word : ℕ → ℕ
same_word x = x

module _ (f out : List ℕ) (size : length f ≡ 256) (range : flaw (below 3329) f ≡ none) (room : length out ≡ 256) where
  pub transformed_at : Elements (λ (x : ℕ). ltb x 3329) out → Agrees 3328 (coefficient out) (ntt 7 3328 17 (coefficient f)) → Transformed f out
  transformed_at E A =
      let is : out ≡ ntt_of f = listed_by 3329 _ out refl room E A in
      record {
        is = is;
        back = ap inverse_of is ∙ ml_kem.list_back f (polynomial_in f size range);
        slots = λ k o h l. A (k * 2 + o) (omega arith) ⨾ ml_kem.slots (coefficient f) k o h l;
      }

  inverted_at : Elements (λ (x : ℕ). ltb x 3329) out → Agrees 3328 (coefficient out) (inv_ntt 7 3328 17 3303 (coefficient f)) → Inverted f out
  inverted_at E A =
      let is : out ≡ inverse_of f = listed_by 3329 _ out refl room E A in
      record { is = is; back = ap ntt_of is ∙ ml_kem.list_forward f (polynomial_in f size range) }

multiplied_at : (f g out : List ℕ) → length f ≡ 256 → flaw (below 3329) f ≡ none → length g ≡ 256 → flaw (below 3329) g ≡ none → length out ≡ 256 →
    Elements (λ (x : ℕ). ltb x 3329) out → BaseProducts 7 3328 17 (coefficient f) (coefficient g) (coefficient out) → Multiplied f g out
multiplied_at f g out size range sizeg rangeg room E B =
    let is : out ≡ transform_product 7 3328 17 f g =
    listed_by 3329 _ out refl room E (base_products_same 7 17 (omega arith) _ _ _ _ _ _ (λ j l. same_refl) (λ j l. same_refl) B (base_product_is 7 3328 17 (coefficient f) (coefficient g))) in
    record { is = is; product = is ∙ ml_kem.list_product f g (polynomial_in f size range) (polynomial_in g sizeg rangeg) }

-- a masked layer, by its number
module _ (f out : List ℕ) (room : length out ≡ 256) (E : Elements (λ (x : ℕ). ltb x 3329) out) (incoming outgoing : List ℕ) where
  forward_layered_at : (s : ℕ) → 1 ≤ s → s ≤ 7 → WentForward 3328 17 s incoming outgoing (coefficient f) (coefficient out) → Layered Forward s incoming outgoing f out
  forward_layered_at zero a b W = absurd (omega arith)
  forward_layered_at (suc t) a b W =
      let e : suc t - 1 ≡ t = omega arith in
      record {
        is = listed_by 3329 _ out refl room E
            (forward_layer_one 7 17 t (omega arith) _ _ (coefficient f) _ _
            (subst (λ (q : ℕ). ForwardLayer 7 3328 17 (suc t) (mask_after 7 Forward q incoming) (mask_after 7 Forward (suc t) outgoing) (coefficient f) (coefficient out)) e W.layer)
            (ml_kem.forward_layers t b incoming outgoing (coefficient f)));
        step = W.step;
      }

  inverse_layered_at : (s : ℕ) → 1 ≤ s → s ≤ 7 → WentBack 3328 17 3303 s incoming outgoing (coefficient f) (coefficient out) → Layered Inverse s incoming outgoing f out
  inverse_layered_at zero a b W = absurd (omega arith)
  inverse_layered_at (suc t) a b W =
      let e : suc t - 1 ≡ t = omega arith in
      record {
        is = listed_by 3329 _ out refl room E
            (inverse_layer_one 7 17 3303 t (omega arith) b _ _ (coefficient f) _ _
            (subst (λ (q : ℕ). InverseLayer 7 3328 17 3303 (suc t) (mask_after 7 Inverse q incoming) (mask_after 7 Inverse (suc t) outgoing) (coefficient f) (coefficient out)) e W.layer)
            (ml_kem.inverse_layers t b incoming outgoing (coefficient f)));
        step = W.step;
      }

-- with the ring's modulus m as the code has it, and the row ws that the code started from
module _ (m : ℕ) (e : m ≡ 3329) (f ws out : List ℕ) (copied : ws ≡ f) (size : length f ≡ 256) (range : flaw (below 3329) f ≡ none) (room : length out ≡ 256) where
  reduced : Elements (λ (x : ℕ). ltb x m) out → Elements (λ (x : ℕ). ltb x 3329) out
  reduced E = subst (λ (q : ℕ). Elements (λ (x : ℕ). ltb x q) out) e E

  inverse_known : InverseOf128 (pred m) 3303
  inverse_known = subst (λ (q : ℕ). InverseOf128 (pred q) 3303) (sym e) (record { same = refl })

  -- the value that the code's row has, by the coefficients of f
  agreed : (F : ℕ → (ℕ → ℕ) → ℕ → ℕ) → Agrees (pred m) (held same_word out) (F m (held same_word ws)) → Agrees 3328 (coefficient out) (F 3329 (coefficient f))
  agreed F A =
      let A₁ : Agrees 3328 (held same_word out) (F 3329 (held same_word ws)) = subst (λ (q : ℕ). Agrees (pred q) (held same_word out) (F q (held same_word ws))) e A in
      let A₂ : Agrees 3328 (coefficient out) (F 3329 (held same_word ws)) = subst (λ (h : ℕ → ℕ). Agrees 3328 h (F 3329 (held same_word ws))) (held_is out) A₁ in
      subst (λ (h : ℕ → ℕ). Agrees 3328 (coefficient out) (F 3329 h)) (held_is ws ∙ ap coefficient copied) A₂

  pub transformed_by : Elements (λ (x : ℕ). ltb x m) out → Agrees (pred m) (held same_word out) (ntt 7 (pred m) (plain_root m) (held same_word ws)) → Transformed f out
  transformed_by E A = transformed_at f out size range room (reduced E) (agreed (λ q. ntt 7 (pred q) (plain_root q)) A)

  pub inverted_by : Elements (λ (x : ℕ). ltb x m) out →
      ((i : ℕ) → InverseOf128 (pred m) i → Agrees (pred m) (held same_word out) (inv_ntt 7 (pred m) (plain_root m) i (held same_word ws))) → Inverted f out
  inverted_by E A = inverted_at f out size range room (reduced E) (agreed (λ q. inv_ntt 7 (pred q) (plain_root q) 3303) (A 3303 inverse_known))

  -- any relation between the row before and after
  related : (F : ℕ → (ℕ → ℕ) → (ℕ → ℕ) → Type 0) → F m (held same_word ws) (held same_word out) → F 3329 (coefficient f) (coefficient out)
  related F r =
      let r₁ : F 3329 (held same_word ws) (held same_word out) = subst (λ (q : ℕ). F q (held same_word ws) (held same_word out)) e r in
      let r₂ : F 3329 (held same_word ws) (coefficient out) = subst (λ (h : ℕ → ℕ). F 3329 (held same_word ws) h) (held_is out) r₁ in
      subst (λ (h : ℕ → ℕ). F 3329 h (coefficient out)) (held_is ws ∙ ap coefficient copied) r₂

  module _ (s : ℕ) (first : 1 ≤ s) (last : s ≤ 7) (incoming outgoing : List ℕ) (E : Elements (λ (x : ℕ). ltb x m) out) where
    pub forward_layered_by : WentForward (pred m) (plain_root m) s incoming outgoing (held same_word ws) (held same_word out) → Layered Forward s incoming outgoing f out
    forward_layered_by W =
        forward_layered_at f out room (reduced E) incoming outgoing s first last (related (λ q h h'. WentForward (pred q) (plain_root q) s incoming outgoing h h') W)

    pub inverse_layered_by : ((i : ℕ) → InverseOf128 (pred m) i → WentBack (pred m) (plain_root m) i s incoming outgoing (held same_word ws) (held same_word out)) →
        Layered Inverse s incoming outgoing f out
    inverse_layered_by W =
        inverse_layered_at f out room (reduced E) incoming outgoing s first last
        (related (λ q h h'. WentBack (pred q) (plain_root q) 3303 s incoming outgoing h h') (W 3303 inverse_known))

pub multiplied_by : (m : ℕ) → m ≡ 3329 → (f g out : List ℕ) → length f ≡ 256 → flaw (below 3329) f ≡ none → length g ≡ 256 → flaw (below 3329) g ≡ none → length out ≡ 256 →
    Elements (λ (x : ℕ). ltb x m) out → BaseProducts 7 (pred m) (plain_root m) (held same_word f) (held same_word g) (held same_word out) → Multiplied f g out
multiplied_by m e f g out size range sizeg rangeg room E B =
    let B₁ : BaseProducts 7 3328 17 (held same_word f) (held same_word g) (held same_word out) =
    subst (λ (q : ℕ). BaseProducts 7 (pred q) (plain_root q) (held same_word f) (held same_word g) (held same_word out)) e B in
    let B₂ : BaseProducts 7 3328 17 (coefficient f) (held same_word g) (held same_word out) =
    subst (λ (h : ℕ → ℕ). BaseProducts 7 3328 17 h (held same_word g) (held same_word out)) (held_is f) B₁ in
    let B₃ : BaseProducts 7 3328 17 (coefficient f) (coefficient g) (held same_word out) =
    subst (λ (h : ℕ → ℕ). BaseProducts 7 3328 17 (coefficient f) h (held same_word out)) (held_is g) B₂ in
    multiplied_at f g out size range sizeg rangeg room (subst (λ (q : ℕ). Elements (λ (x : ℕ). ltb x q) out) e E)
    (subst (λ (h : ℕ → ℕ). BaseProducts 7 3328 17 (coefficient f) (coefficient g) h) (held_is out) B₃)
