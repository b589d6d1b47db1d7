-- What holds of one register throughout a history, and how one step carries it.
use Rattle.std.proofs.Common.{◌≡◌, ℕ, ◌<◌, ◌≤◌, true, false, List, length, sym, ap, ◌∙◌}
use Rattle.std.proofs.lemmas.Bool.{both_ways}
use Rattle.guarded.specs.Model.{Guarded}
use Rattle.histories.specs.declared.register.Form.{Form}
use Rattle.histories.specs.declared.register.Form.TheVariants.{Empty}
use Rattle.histories.specs.declared.register.Register.{Register}
use Rattle.histories.specs.Operations.{Good}
use Rattle.histories.specs.Forms.{occupied}
use Rattle.histories.specs.Calls.{coefficients, plains, residues}
use Rattle.histories.specs.Ledger.{Held, nothing, holds, Reach, unreached, reached}
use Rattle.histories.proofs.Asked.{Fine, expected, owed}
use Rattle.histories.proofs.Basics.{every}
use Rattle.histories.proofs.Forms.{layers_of}

-- the ledger's layers are those of the form
abbrev pub Layered : Held → Form → Type 0
Layered nothing F = F ≡ Empty
Layered (holds f l) F = (occupied F ≡ true) × (l ≡ layers_of F) × Good coefficients f

module _ {W : Type 0} (G : Guarded W) where
  -- of every register r
  pub record Common (r : ℕ) (h : Held) (x : Register) (words : List W) : Type 0 where
    pub size : r < 8 → length words ≡ 256
    pub inside : occupied x.form ≡ true → r < 8
    pub fine : Fine x.form
    pub layered : Layered h x.form
    pub below : x.a < G.p
    pub below_b : x.b < G.p
    pub single : x.level ≤ 1 → x.b ≡ 0

  -- of an unreached register with the polynomial f
  pub record Kept (f e : List ℕ) (x : Register) (words : List W) : Type 0 where
    pub elements : every G.element words ≡ true
    pub plain : plains G words ≡ expected coefficients x.form e f
    pub check : residues G words ≡ owed G e x

  -- of a register that the strike from w to w' has reached
  pub record Tainted (w w' : List W) (e : List ℕ) (x : Register) (words : List W) : Type 0 where
    pub frozen : every G.element w' ≡ false → words ≡ w'
    pub sound : every G.element w' ≡ true → every G.element words ≡ true
    pub there : every G.element w' ≡ true → residues G w ≡ residues G w' → residues G words ≡ owed G e x
    pub back : every G.element w' ≡ true → residues G words ≡ owed G e x → residues G w ≡ residues G w'

  abbrev pub Bond : Type 0 → Held → Reach W → List ℕ → Register → List W → Type 0
  Bond S nothing unreached e x words = Unit {0}
  Bond S nothing (reached w w') e x words = ⊥
  Bond S (holds f l) unreached e x words = Kept f e x words
  Bond S (holds f l) (reached w w') e x words = S → Tainted w w' e x words

  pub record Local (S : Type 0) (r : ℕ) (e : List ℕ) (h : Held) (R : Reach W) (x : Register) (words : List W) : Type 0 where
    pub common : Common r h x words
    pub bond : Bond S h R e x words

  -- one step that takes what the register held and what it should hold by one function
  pub kept_carry : (f e e' : List ℕ) (x x' : Register) (words words' : List W) (fq fp : List ℕ → List ℕ) →
      every G.element words' ≡ true → plains G words' ≡ fq (plains G words) → fq (expected coefficients x.form e f) ≡ expected coefficients x'.form e' f →
      residues G words' ≡ fp (residues G words) → fp (owed G e x) ≡ owed G e' x' → Kept f e x words → Kept f e' x' words'
  kept_carry f e e' x x' words words' fq fp el aq eq ap' ep k =
      record { elements = el; plain = aq ∙ ap fq k.plain ∙ eq; check = ap' ∙ ap fp k.check ∙ ep }

  pub taint_carry : (w w' : List W) (e e' : List ℕ) (x x' : Register) (words words' : List W) (fp : List ℕ → List ℕ) →
      every G.element words ≡ true → every G.element words' ≡ true →
      residues G words' ≡ fp (residues G words) → fp (owed G e x) ≡ owed G e' x' →
      (fp (residues G words) ≡ fp (owed G e x) → residues G words ≡ owed G e x) → Tainted w w' e x words → Tainted w w' e' x' words'
  taint_carry w w' e e' x x' words words' fp el el' ap' ep inj k =
      record {
        frozen = λ b. absurd (both_ways (every G.element words) (ap (every G.element) (k.frozen b) ∙ b) el);
        sound = λ _. el';
        there = λ g same. ap' ∙ ap fp (k.there g same) ∙ ep;
        back = λ g now. k.back g (inj (sym ap' ∙ now ∙ sym ep));
      }

  -- fewer assumptions on the strikes
  pub bond_under : (S S' : Type 0) → (S' → S) → (h : Held) (R : Reach W) (e : List ℕ) (x : Register) (words : List W) → Bond S h R e x words → Bond S' h R e x words
  bond_under S S' u nothing unreached e x words b = b
  bond_under S S' u nothing (reached w w') e x words b = b
  bond_under S S' u (holds f l) unreached e x words b = b
  bond_under S S' u (holds f l) (reached w w') e x words b = λ s. b (u s)
