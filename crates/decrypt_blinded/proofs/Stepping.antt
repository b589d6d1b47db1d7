-- The ledger through the steps of a decryption.
use Rattle.std.proofs.Common.{◌≡◌, ℕ, suc, pred, ◌+◌, ◌-◌, Bool, true, false, cond, eqb, List, [], Ok, Err, length, sym, refl, ap, ◌∙◌, subst, arith}
use mathlib.Core.Path.{fun_ext}
use Rattle.std.specs.Result.{OnOk}
use Rattle.std.specs.Prelude.{Result}
use Rattle.rings.specs.declared.refusal.Refusal.{Refusal}
use Rattle.histories.specs.Answers.{told}
use Rattle.std.proofs.lemmas.Bool.{eqb-true, eq-eqb}
use Rattle.algebra.specs.declared.Direction.{Direction}
use Rattle.algebra.specs.declared.Direction.TheVariants.{Forward, Inverse}
use Rattle.rings.specs.declared.ring.Ring.{Ghosts as Members}
use Rattle.guarded.specs.declared.ring.GuardedRing.{Ghosts as MoreMembers}
use Rattle.guarded.specs.Model.{Guarded, guarded}
use Rattle.histories.specs.Operations.{difference_of}
use Rattle.histories.specs.Calls.{coefficients, State, Call, load, turn, join, part, polynomial, transform, plus, minus, times}
use Rattle.histories.specs.Serves.{Answer, put, done, Serves}
use Rattle.histories.specs.Ledger.{Held, holds, moved}
use Rattle.histories.specs.Tracked.{Tracked, Keeps}
use Rattle.histories.proofs.Tracking.{tracks_on}
use Rattle.decryption.specs.Restored.{part as row}
use Rattle.decrypt_blinded.specs.Steps.{layers_before, layers_after, products, Turned, Paired, Summed}

-- the model of a ring from its ghost members, where a proof has them in two records
abbrev pub ring_model : {S W : Type 0} → Members S W → MoreMembers S W → S → Guarded W
ring_model r h = guarded h.check h.redundancy r.root r.element r.meaning h.number

-- how many layers the register has had after n of them
abbrev pub layers_now : Direction → (n : ℕ) → ℕ
layers_now Forward n = n
layers_now Inverse n = 7 - n

-- what is put where it stands already
pub put_same : {A : Type 0} (r : ℕ) (x : A) (L : ℕ → A) → L r ≡ x → put r x L ≡ L
put_same {A} r x L e = fun_ext (λ q. go q (eqb q r) refl)
  where
    go : (q : ℕ) (b : Bool) → eqb q r ≡ b → cond b x (L q) ≡ L q
    go q true h = sym e ∙ ap L (sym (eqb-true q r h))
    go q false h = refl

-- the later of two at one place
pub put_twice : {A : Type 0} (r : ℕ) (x y : A) (L : ℕ → A) → put r x (put r y L) ≡ put r x L
put_twice {A} r x y L = fun_ext (λ q. go q (eqb q r))
  where
    go : (q : ℕ) (b : Bool) → cond b x (cond b y (L q)) ≡ cond b x (L q)
    go q true = refl
    go q false = refl

pub put_here : {A : Type 0} (r : ℕ) (x : A) (L : ℕ → A) → put r x L r ≡ x
put_here r x L = rw (eq-eqb r r refl)

-- one layer more
next_layer : (way : Direction) (n : ℕ) (f : List ℕ) → moved way (holds f (layers_now way n)) ≡ holds f (layers_now way (n + 1))
next_layer Forward n f = ap (holds f) (omega arith)
next_layer Inverse n f = ap (holds f) (pred_minus n)
  where
    pred_minus : (n : ℕ) → pred (7 - n) ≡ 7 - (n + 1)
    pred_minus n = omega arith

before_all : (way : Direction) → layers_before way ≡ layers_now way 0
before_all Forward = refl
before_all Inverse = refl

after_all : (way : Direction) → layers_now way 7 ≡ layers_after way
after_all Forward = refl
after_all Inverse = refl

-- a call of a workspace whose ring is still the same
pub serves_in : {R W : Type 0} (M : R → Guarded W) {ρ ρ' : R} {s s' : State} {lent : ℕ} {words words' : ℕ → List W} {c : Call} {answer : Answer} →
    ρ' ≡ ρ → Serves (M ρ') s lent words c answer s' words' → Serves (M ρ) s lent words c answer s' words'
serves_in M {ρ} {ρ'} {s} {s'} {lent} {words} {words'} {c} {answer} e h = subst (λ (q : _). Serves (M q) s lent words c answer s' words') e h

pub keeps_in : {R W : Type 0} (M : R → Guarded W) {ρ ρ' : R} {s : State} {words : List W} {r : ℕ} {f : List ℕ} {l : ℕ} →
    ρ' ≡ ρ → Keeps (M ρ') s words r f l → Keeps (M ρ) s words r f l
keeps_in M {ρ} {ρ'} {s} {words} {r} {f} {l} e h = subst (λ (q : _). Keeps (M q) s words r f l) e h

module _ {W : Type 0} (G : Guarded W) where
  -- before the first layer
  pub turned_none : (s : State) (words : List W) (way : Direction) (r : ℕ) (L : ℕ → Held) (f : List ℕ) → L r ≡ holds f (layers_before way) →
      Tracked G s words L → Tracked G s words (put r (holds f (layers_now way 0)) L)
  turned_none s words way r L f e t = subst (Tracked G s words) (sym (put_same r (holds f (layers_now way 0)) L (e ∙ ap (holds f) (before_all way)))) t

  pub turned_more : (s s' : State) (words words' : List W) (way : Direction) (r : ℕ) (masks : List ℕ) (n : ℕ) (L : ℕ → Held) (f : List ℕ) → length words ≡ 2048 →
      Serves G s (length words) (part words) (turn way r masks) done s' (part words') →
      Tracked G s words (put r (holds f (layers_now way n)) L) → Tracked G s' words' (put r (holds f (layers_now way (n + 1))) L)
  turned_more s s' words words' way r masks n L f size served t =
      subst (Tracked G s' words')
      (ap (λ (H : Held). put r H (put r (holds f (layers_now way n)) L))
      (ap (moved way) (put_here r (holds f (layers_now way n)) L) ∙ next_layer way n f)
      ∙ put_twice r (holds f (layers_now way (n + 1))) (holds f (layers_now way n)) L)
      (tracks_on G s s' words words' _ size (turn way r masks) done refl served t)

  pub turned_all : (s s' : State) (words words' : List W) (way : Direction) (r n : ℕ) → n ≡ 7 →
      ((L : ℕ → Held) (f : List ℕ) → L r ≡ holds f (layers_before way) → Tracked G s words L → Tracked G s' words' (put r (holds f (layers_now way n)) L)) →
      Turned G s words s' words' way r
  turned_all s s' words words' way r n e h L f at t =
      subst (λ (k : ℕ). Tracked G s' words' (put r (holds f k) L)) (ap (layers_now way) e ∙ after_all way) (h L f at t)

  -- the last layer, where it is done
  pub turned_last : (result : Result (Unit {0}) Refusal) (s₁ s₂ s₃ : State) (w₁ w₂ w₃ : List W) (way : Direction) (r n : ℕ) → n ≡ 6 → length w₂ ≡ 2048 →
      Serves G s₂ (length w₂) (part w₂) (turn way r []) (told result) s₃ (part w₃) →
      ((L : ℕ → Held) (f : List ℕ) → L r ≡ holds f (layers_before way) → Tracked G s₁ w₁ L → Tracked G s₂ w₂ (put r (holds f (layers_now way n)) L)) →
      OnOk result (Turned G s₁ w₁ s₃ w₃ way r)
  turned_last (Ok u) s₁ s₂ s₃ w₁ w₂ w₃ way r n e size served h =
      turned_all s₁ s₃ w₁ w₃ way r (n + 1) (omega arith) (λ L f at t. turned_more s₂ s₃ w₂ w₃ way r [] n L f size served (h L f at t))
  turned_last (Err why) s₁ s₂ s₃ w₁ w₂ w₃ way r n e size served h = tt

  -- u and the values xs are loaded, and u has had all layers
  pub pairs : (s₀ s₁ s₂ s₃ : State) (w₀ w₁ w₂ w₃ : List W) (u xs : List ℕ) (c c' : ℕ) (bytes bytes' : List ℕ) → length w₀ ≡ 2048 → length w₂ ≡ 2048 →
      Serves G s₀ (length w₀) (part w₀) (load polynomial 0 u c bytes) done s₁ (part w₁) → Turned G s₁ w₁ s₂ w₂ Forward 0 →
      Serves G s₂ (length w₂) (part w₂) (load transform 1 xs c' bytes') done s₃ (part w₃) → Paired G s₀ w₀ s₃ w₃ u xs
  pairs s₀ s₁ s₂ s₃ w₀ w₁ w₂ w₃ u xs c c' bytes bytes' size size' first turned second L t =
      let t₁ = tracks_on G s₀ s₁ w₀ w₁ L size (load polynomial 0 u c bytes) done refl first t in
      let t₂ = turned (put 0 (holds u 0) L) u (put_here 0 (holds u 0) L) t₁ in
      let t₃ = subst (Tracked G s₂ w₂) (put_twice 0 (holds u 7) (holds u 0) L) t₂ in
      tracks_on G s₂ s₃ w₂ w₃ _ size' (load transform 1 xs c' bytes') done refl second t₃

  -- the first product
  pub begins : (s₀ s₁ s₂ : State) (w₀ w₁ w₂ : List W) (us ss : List ℕ) → length w₁ ≡ 2048 → Paired G s₀ w₀ s₁ w₁ (row us 0) (row ss 0) →
      Serves G s₁ (length w₁) (part w₁) (join times 2 0 1) done s₂ (part w₂) → Summed G s₀ w₀ s₂ w₂ us ss 0
  begins s₀ s₁ s₂ w₀ w₁ w₂ us ss size paired served L t = record {
    all = _;
    tracked = tracks_on G s₁ s₂ w₁ w₂ _ size (join times 2 0 1) done refl served (paired L t);
    here = refl;
  }

  -- one product more
  continues : (s₁ s₂ s₃ s₄ : State) (w₁ w₂ w₃ w₄ : List W) (us ss : List ℕ) (k : ℕ) → length w₂ ≡ 2048 → length w₃ ≡ 2048 →
      Keeps G s₁ w₁ 2 (products us ss k) 7 → Paired G s₁ w₁ s₂ w₂ (row us (suc k)) (row ss (suc k)) →
      Serves G s₂ (length w₂) (part w₂) (join times 0 0 1) done s₃ (part w₃) → Serves G s₃ (length w₃) (part w₃) (join plus 2 2 0) done s₄ (part w₄) →
      Keeps G s₄ w₄ 2 (products us ss (suc k)) 7
  continues s₁ s₂ s₃ s₄ w₁ w₂ w₃ w₄ us ss k size size' kept paired first second =
      let t₂ = paired kept.all kept.tracked in
      let t₃ = tracks_on G s₂ s₃ w₂ w₃ _ size (join times 0 0 1) done refl first t₂ in
      record {
        all = _;
        tracked = tracks_on G s₃ s₄ w₃ w₄ _ size' (join plus 2 2 0) done refl second t₃;
        here = rw kept.here refl;
      }

  pub continues_at : (s₁ s₂ s₃ s₄ : State) (w₁ w₂ w₃ w₄ : List W) (us ss : List ℕ) (k : ℕ) → length w₂ ≡ 2048 → length w₃ ≡ 2048 →
      Keeps G s₁ w₁ 2 (products us ss k) 7 → Paired G s₁ w₁ s₂ w₂ (row us (k + 1)) (row ss (k + 1)) →
      Serves G s₂ (length w₂) (part w₂) (join times 0 0 1) done s₃ (part w₃) → Serves G s₃ (length w₃) (part w₃) (join plus 2 2 0) done s₄ (part w₄) →
      Keeps G s₄ w₄ 2 (products us ss (k + 1)) 7
  continues_at s₁ s₂ s₃ s₄ w₁ w₂ w₃ w₄ us ss k size size' kept paired first second =
      let e : k + 1 ≡ suc k = omega arith in
      rw e
      (continues s₁ s₂ s₃ s₄ w₁ w₂ w₃ w₄ us ss k size size' kept (subst (λ (n : ℕ). Paired G s₁ w₁ s₂ w₂ (row us n) (row ss n)) e paired) first second)

  -- the sum is taken back and subtracted from v
  pub finishes : (s₁ s₂ s₃ s₄ : State) (w₁ w₂ w₃ w₄ : List W) (v f : List ℕ) (c : ℕ) (bytes : List ℕ) → length w₂ ≡ 2048 → length w₃ ≡ 2048 →
      Keeps G s₁ w₁ 2 f 7 → Turned G s₁ w₁ s₂ w₂ Inverse 2 → Serves G s₂ (length w₂) (part w₂) (load polynomial 0 v c bytes) done s₃ (part w₃) →
      Serves G s₃ (length w₃) (part w₃) (join minus 0 0 2) done s₄ (part w₄) → Keeps G s₄ w₄ 0 (difference_of coefficients v f) 0
  finishes s₁ s₂ s₃ s₄ w₁ w₂ w₃ w₄ v f c bytes size size' kept turned first second =
      let t₂ = turned kept.all f kept.here kept.tracked in
      let t₃ = tracks_on G s₂ s₃ w₂ w₃ _ size (load polynomial 0 v c bytes) done refl first t₂ in
      record { all = _; tracked = tracks_on G s₃ s₄ w₃ w₄ _ size' (join minus 0 0 2) done refl second t₃; here = refl }
