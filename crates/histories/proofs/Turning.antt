-- Loads, layers and refreshes, on one register.
use Rattle.std.proofs.Common.{◌≡◌, ℕ, suc, pred, ◌*◌, ◌<◌, true, false, List, map, length, get_or, sym, refl, ap, ◌∙◌}
use lib.ListN.{length-map}
use Rattle.std.proofs.lemmas.Bool.{false≢true}
use Rattle.algebra.specs.declared.Direction.{Direction}
use Rattle.algebra.specs.declared.Direction.TheVariants.{Forward, Inverse}
use Rattle.guarded.specs.Model.{Guarded, Lawful}
use Rattle.histories.specs.declared.register.Form.{Form}
use Rattle.histories.specs.declared.register.Form.TheVariants.{Natural, Transformed}
use Rattle.histories.specs.declared.register.Register.{Register}
use Rattle.histories.specs.Operations.{neg, Good, remainders, layer_under, witness, inverse_of}
use Rattle.histories.specs.Forms.{in_work, turns, done_of}
use Rattle.histories.specs.Calls.{coefficients, checks, meanings, residues, Kind, polynomial, transform, form_of, empty_record}
use Rattle.histories.specs.Serves.{Meaning, Loaded, loaded, turned}
use Rattle.histories.specs.Ledger.{Held, nothing, holds, Reach, unreached, reached, moved, put_in}
use Rattle.histories.proofs.Asked.{Fine, owed, Algebra}
use Rattle.histories.proofs.Basics.{below_pred, every, flaw_none, every_at, remainders_good, map_polynomial}
use Rattle.histories.proofs.Forms.{next, fine_next, occupied_next, layers_forward, layers_inverse, expected_idle}
use Rattle.histories.proofs.Local.{Layered, Common, Kept, Tainted, Bond, Local, kept_carry, taint_carry}

layered_turn : (w : Direction) (h : Held) (F : Form) → turns w F ≡ true → Layered h F → Layered (moved w h) (next w F)
layered_turn Forward nothing F t k = absurd (false≢true (sym (ap (turns Forward) k) ∙ t))
layered_turn Forward (holds f l) F t k = (occupied_next Forward F, ap suc k.1 ∙ layers_forward F t, k.2)
layered_turn Inverse nothing F t k = absurd (false≢true (sym (ap (turns Inverse) k) ∙ t))
layered_turn Inverse (holds f l) F t k = (occupied_next Inverse F, ap pred k.1 ∙ layers_inverse F t, k.2)

module _ {W : Type 0} (G : Guarded W) (Y : Lawful G) (A : Algebra G) where
  means_size : (words : List W) → length words ≡ 256 → length (map G.meaning words) ≡ 256
  means_size words h = length-map words G.meaning ∙ h

  pub means_good : (words : List W) → length words ≡ 256 → every G.element words ≡ true → Good (meanings G) (map G.meaning words)
  means_good words h el =
      map_polynomial (neg (meanings G)) G.meaning words h (λ k d l. below_pred (3329 * G.p) _ (Y.below (get_or words k d) (every_at G.element words el k d l)))

  pub residues_good : (words : List W) → length words ≡ 256 → Good (checks G) (residues G words)
  residues_good words h = remainders_good (checks G) A.on_checks.positive (map G.meaning words) (means_size words h)

  pub owed_good : (e : List ℕ) (x : Register) → Good (checks G) (owed G e x)
  owed_good e x = A.on_checks.expected_good x.form e (witness (checks G) x.a x.b)

  module _ (w : Direction) (r : ℕ) (e ms : List ℕ) (x : Register) (words words' : List W) (inside : r < 8) (t : turns w x.form ≡ true)
      (el : every G.element words ≡ true)
      (res : Meaning G (layer_under (meanings G) w (suc (done_of x.form)) e ms (map G.meaning words)) words') where
    turn_kept : (f : List ℕ) (l : ℕ) → Common G r (holds f l) x words → Kept G f e x words → Kept G f ms (turned w x) words'
    turn_kept f l c =
        kept_carry G f e ms x (turned w x) words words' (layer_under coefficients w (suc (done_of x.form)) e ms) (layer_under (checks G) w (suc (done_of x.form)) e ms)
        (flaw_none G.element words' res.elements)
        (ap (remainders coefficients) res.means ∙ A.to_coefficients.layers_reduce w (suc (done_of x.form)) e ms (map G.meaning words) (means_good words (c.size inside) el))
        (A.on_coefficients.steps w x.form e ms f t c.fine c.layered.2)
        (ap (remainders (checks G)) res.means ∙ A.to_checks.layers_reduce w (suc (done_of x.form)) e ms (map G.meaning words) (means_good words (c.size inside) el))
        (A.on_checks.steps w x.form e ms (witness (checks G) x.a x.b) t c.fine (A.checking.witness_good x.a x.b))

    turn_taint : (h : Held) (v v' : List W) → Common G r h x words → Tainted G v v' e x words → Tainted G v v' ms (turned w x) words'
    turn_taint h v v' c =
        taint_carry G v v' e ms x (turned w x) words words' (layer_under (checks G) w (suc (done_of x.form)) e ms) el
        (flaw_none G.element words' res.elements)
        (ap (remainders (checks G)) res.means ∙ A.to_checks.layers_reduce w (suc (done_of x.form)) e ms (map G.meaning words) (means_good words (c.size inside) el))
        (A.on_checks.steps w x.form e ms (witness (checks G) x.a x.b) t c.fine (A.checking.witness_good x.a x.b))
        (A.checking.layer_injective w x.form e ms (residues G words) (owed G e x) t c.fine
        (residues_good words (c.size inside)) (owed_good e x))

    turn_bond : (S : Type 0) (u : Direction) (h : Held) (R : Reach W) → Common G r h x words → Bond G S h R e x words → Bond G S (moved u h) R ms (turned w x) words'
    turn_bond S Forward nothing unreached c b = tt
    turn_bond S Forward nothing (reached v v') c b = b
    turn_bond S Forward (holds f l) unreached c b = turn_kept f l c b
    turn_bond S Forward (holds f l) (reached v v') c b = λ s. turn_taint (holds f l) v v' c (b s)
    turn_bond S Inverse nothing unreached c b = tt
    turn_bond S Inverse nothing (reached v v') c b = b
    turn_bond S Inverse (holds f l) unreached c b = turn_kept f l c b
    turn_bond S Inverse (holds f l) (reached v v') c b = λ s. turn_taint (holds f l) v v' c (b s)

    pub turn_local : (S : Type 0) (h : Held) (R : Reach W) → Local G S r e h R x words → Local G S r ms (moved w h) R (turned w x) words'
    turn_local S h R k =
        let c = k.common in
        record {
          common = record {
            size = λ _. res.size;
            inside = λ _. inside;
            fine = fine_next w x.form c.fine;
            layered = layered_turn w h x.form t c.layered;
            below = c.below;
            below_b = c.below_b;
            single = c.single;
          };
          bond = turn_bond S w h R c k.bond;
        }

  module _ (r : ℕ) (e : List ℕ) (x : Register) (words words' : List W) (el : every G.element words ≡ true) (res : Meaning G (map G.meaning words) words') where
    refresh_bond : (S : Type 0) (h : Held) (R : Reach W) → Bond G S h R e x words → Bond G S h R e x words'
    refresh_bond S nothing unreached b = tt
    refresh_bond S nothing (reached v v') b = b
    refresh_bond S (holds f l) unreached b =
        kept_carry G f e e x x words words' (λ z. z) (λ z. z) (flaw_none G.element words' res.elements) (ap (remainders coefficients) res.means) refl (ap (remainders (checks G)) res.means) refl b
    refresh_bond S (holds f l) (reached v v') b =
        λ s. taint_carry G v v' e e x x words words' (λ z. z) el (flaw_none G.element words' res.elements) (ap (remainders (checks G)) res.means) refl (λ z. z) (b s)

    pub refresh_local : (S : Type 0) (h : Held) (R : Reach W) → Local G S r e h R x words → Local G S r e h R x words'
    refresh_local S h R k =
        let c = k.common in
        record {
          common = record { size = λ _. res.size; inside = c.inside; fine = c.fine; layered = c.layered; below = c.below; below_b = c.below_b; single = c.single };
          bond = refresh_bond S h R k.bond;
        }

  load_layered : (k : Kind) (xs : List ℕ) → Good coefficients xs → Layered (put_in k xs) (form_of k)
  load_layered polynomial xs g = (refl, refl, g)
  load_layered transform xs g = (refl, refl, A.inverse_good xs)

  load_fine : (k : Kind) → Fine (form_of k)
  load_fine polynomial = tt
  load_fine transform = tt

  pub load_idle : (k : Kind) → in_work (form_of k) ≡ false
  load_idle polynomial = refl
  load_idle transform = refl

  load_bond : (S : Type 0) (k : Kind) (xs : List ℕ) (c : ℕ) (bytes e : List ℕ) (words : List W) → Good coefficients xs → Loaded G k xs c bytes words →
      Bond G S (put_in k xs) unreached e (loaded k c) words
  load_bond S polynomial xs c bytes e words g h =
      record {
        elements = flaw_none G.element words h.numbered.elements;
        plain = h.plain ∙ sym (A.on_coefficients.expected_whole Natural e xs refl g);
        check = h.check ∙ sym (A.on_checks.expected_whole Natural e (witness (checks G) c 0) refl (A.checking.witness_good c 0));
      }
  load_bond S transform xs c bytes e words g h =
      record {
        elements = flaw_none G.element words h.numbered.elements;
        plain = h.plain ∙ sym (A.inverse_back xs g) ∙ sym (A.on_coefficients.expected_whole Transformed e (inverse_of coefficients xs) refl (A.inverse_good xs));
        check = h.check ∙ sym (A.on_checks.expected_whole Transformed e (witness (checks G) c 0) refl (A.checking.witness_good c 0));
      }

  pub load_local : (S : Type 0) (k : Kind) (r : ℕ) (xs : List ℕ) (c : ℕ) (bytes e : List ℕ) (words : List W) → r < 8 → Good coefficients xs → c < G.p →
      Loaded G k xs c bytes words → Local G S r e (put_in k xs) unreached (loaded k c) words
  load_local S k r xs c bytes e words inside g below h =
      record {
        common = record {
          size = λ _. h.numbered.size;
          inside = λ _. inside;
          fine = load_fine k;
          layered = load_layered k xs g;
          below = below;
          below_b = A.on_checks.positive;
          single = λ _. refl;
        };
        bond = load_bond S k xs c bytes e words g h;
      }

  pub clear_local : (S : Type 0) (r : ℕ) (e : List ℕ) (words : List W) → (r < 8 → length words ≡ 256) → Local G S r e nothing unreached empty_record words
  clear_local S r e words size =
      record {
        common = record {
          size = size;
          inside = λ t. absurd (false≢true t);
          fine = tt;
          layered = refl;
          below = A.on_checks.positive;
          below_b = A.on_checks.positive;
          single = λ _. refl;
        };
        bond = tt;
      }

  -- a register that is not in work does not feel the masks
  remask_bond : (S : Type 0) (e e' : List ℕ) (h : Held) (R : Reach W) (x : Register) (words : List W) → in_work x.form ≡ false → Bond G S h R e x words → Bond G S h R e' x words
  remask_bond S e e' nothing unreached x words i b = tt
  remask_bond S e e' nothing (reached v v') x words i b = b
  remask_bond S e e' (holds f l) unreached x words i b =
      record {
        elements = b.elements;
        plain = b.plain ∙ expected_idle coefficients x.form e e' f i;
        check = b.check ∙ expected_idle (checks G) x.form e e' (witness (checks G) x.a x.b) i;
      }
  remask_bond S e e' (holds f l) (reached v v') x words i b =
      let D = expected_idle (checks G) x.form e e' (witness (checks G) x.a x.b) i in
      λ s.
      let t = b s in
      record { frozen = t.frozen; sound = t.sound; there = λ g same. t.there g same ∙ D; back = λ g now. t.back g (now ∙ sym D) }

  pub remask_local : (S : Type 0) (r : ℕ) (e e' : List ℕ) (h : Held) (R : Reach W) (x : Register) (words : List W) → in_work x.form ≡ false →
      Local G S r e h R x words → Local G S r e' h R x words
  remask_local S r e e' h R x words i k =
      let c = k.common in
      record {
        common = record {
          size = c.size;
          inside = c.inside;
          fine = c.fine;
          layered = c.layered;
          below = c.below;
          below_b = c.below_b;
          single = c.single;
        };
        bond = remask_bond S e e' h R x words i k.bond;
      }
