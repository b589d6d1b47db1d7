-- From what the code has done to what one call does.
use Rattle.std.proofs.Common.{◌≡◌, ℕ, suc, Bool, true, false, cond, eqb, List, [], map, length, sym, refl, ap, ◌∙◌, subst}
use mathlib.Core.Path.{fun_ext}
use mathlib.Core.Option.{none, some}
use Rattle.std.specs.Prelude.{Result, Ok, Err, IsErrAnd}
use Rattle.std.proofs.lemmas.Bool.{eqb-true}
use Rattle.algebra.specs.declared.Direction.{Direction}
use Rattle.algebra.specs.declared.Direction.TheVariants.{Forward, Inverse}
use Rattle.algebra.specs.Masks.{mask_after, masked_forward, masked_inverse, masked_layer}
use Rattle.algebra.specs.Polynomials.{coefficient, listed}
use Rattle.algebra.proofs.MaskLists.{mask_none}
use Rattle.rings.specs.declared.refusal.Refusal.{Refusal}
use Rattle.rings.specs.Refusals.{number_of, place_of}
use Rattle.guarded.specs.Model.{Guarded, Lawful}
use Rattle.histories.specs.declared.register.Form.{Form}
use Rattle.histories.specs.Operations.{Base, neg, inverse_of_128, layer_under, witness}
use Rattle.histories.specs.Forms.{done_of, form_after, in_form}
use Rattle.histories.specs.declared.call.Join.{Join}
use Rattle.histories.specs.declared.call.Operation as declared_operation
use Rattle.histories.specs.Kinds.{operation_of}
use Rattle.histories.specs.Calls.{State, part, Call, load, turn, join, refresh, clear, release, form_of, ruling, plains, checks, meanings, empty_record, Kind, Operation}
use Rattle.histories.specs.Serves.{Answer, done, given, refused, put, loaded, joined, combined, Meaning, Numbered, verdict, Serves, accepts, refuses}
use Rattle.histories.specs.Answers.{told}
use Rattle.histories.specs.Ledger.{goes}
use Rattle.histories.proofs.Whole.{whole}
use Rattle.records.specs.Tables.{with_register, advanced, carried}
use Rattle.records.specs.declared.turn.Turn.{Turn}
use Rattle.records.specs.Turns.{Turns}
use Rattle.records.specs.Joins.{Joins}
use Rattle.registers.specs.Rows.{Only, Holding}
use Rattle.workspace.specs.Verdicts.{judgement}
use Rattle.workspace.specs.Judged.{Judged}

-- the masks that layer 1 finds in the store do not count
first_layer : (B : Base) (way : Direction) (stored list xs : List ℕ) → layer_under B way 1 [] list xs ≡ layer_under B way 1 stored list xs
unfolding layer_under masked_layer
first_layer B Forward stored list xs =
    ap (λ (e : ℕ → ℕ). listed (neg B) (masked_forward 7 (neg B) B.root 1 e (mask_after 7 Forward 1 list) (coefficient xs)))
    (fun_ext (λ j. mask_none 7 Forward [] j ∙ sym (mask_none 7 Forward stored j)))
first_layer B Inverse stored list xs =
    ap (λ (e : ℕ → ℕ). listed (neg B) (masked_inverse 7 (neg B) B.root (inverse_of_128 B) 1 e (mask_after 7 Inverse 1 list) (coefficient xs)))
    (fun_ext (λ j. mask_none 7 Inverse [] j ∙ sym (mask_none 7 Inverse stored j)))

any_layer : (B : Base) (way : Direction) (layer : ℕ) (stored list xs : List ℕ) → layer_under B way layer (carried layer stored) list xs ≡ layer_under B way layer stored list xs
any_layer B way layer stored list xs = go (eqb layer 1) refl
  where
    go : (b : Bool) → eqb layer 1 ≡ b → layer_under B way layer (cond b [] stored) list xs ≡ layer_under B way layer stored list xs
    go true q = rw (eqb-true layer 1 q) (first_layer B way stored list xs)
    go false q = refl

module _ {W : Type 0} (G : Guarded W) (s : State) (ws : List W) where
  -- a refusal: nothing has changed
  pub refuses_at : (c : Call) (e : Refusal) → some e ≡ judgement G s (length ws) (part ws) c → Serves G s (length ws) (part ws) c (refused (number_of e) (place_of e)) s (part ws)
  unfolding verdict ruling
  refuses_at c e h = refuses e (sym h) refl refl refl

  -- the same of the result that an `?` hands on
  pub refuses_told : {X : Type 0} (c : Call) (why : Refusal) (r : Result X Refusal) → IsErrAnd r (λ e. e ≡ why) →
      some why ≡ judgement G s (length ws) (part ws) c → Serves G s (length ws) (part ws) c (told r) s (part ws)
  refuses_told c why (Ok x) q h = absurd q
  refuses_told c why (Err e) q h = rw q (refuses_at c why h)

  module _ (s' : State) (ws' : List W) where
    -- the checks name the register q by its number r
    pub at_register : (call : ℕ → Call) (answer : Answer) (q r : ℕ) → q ≡ r →
        (none ≡ judgement G s (length ws) (part ws) (call q) → Serves G s (length ws) (part ws) (call q) answer s' (part ws')) →
        none ≡ judgement G s (length ws) (part ws) (call r) → Serves G s (length ws) (part ws) (call r) answer s' (part ws')
    at_register call answer q r e f h =
        subst (λ (x : ℕ). Serves G s (length ws) (part ws) (call x) answer s' (part ws')) e
        (f (subst (λ (x : ℕ). none ≡ judgement G s (length ws) (part ws) (call x)) (sym e) h))

    pub loads : (kind : Kind) (r : ℕ) (xs : List ℕ) (c : ℕ) (bytes cs : List ℕ) → none ≡ judgement G s (length ws) (part ws) (load kind r xs c bytes) →
        s' ≡ with_register r (loaded kind c) s → Only r ws ws' → cs ≡ in_form (checks G) (form_of kind) (witness (checks G) c 0) →
        Holding G xs cs bytes (part ws' r) → Serves G s (length ws) (part ws) (load kind r xs c bytes) done s' (part ws')
    unfolding verdict ruling
    loads kind r xs c bytes cs h e only due holds =
        accepts (sym h) refl (record {
          registers = ap (λ (t : State). t.registers) e;
          masks = ap (λ (t : State). t.masks) e;
          others = only.others;
          written = record { numbered = holds.numbered; plain = holds.plain; check = holds.check ∙ due };
        })

    turns_on : (way : Direction) (r : ℕ) (masks : List ℕ) (layer : ℕ) (next : Form) (before : List ℕ) →
        none ≡ judgement G s (length ws) (part ws) (turn way r masks) → layer ≡ suc (done_of (s.registers r).form) → next ≡ form_after way layer →
        s' ≡ advanced r next masks s →
        before ≡ carried layer s.masks → Only r ws ws' → Meaning G (layer_under (meanings G) way layer before masks (map G.meaning (part ws r))) (part ws' r) →
        Serves G s (length ws) (part ws) (turn way r masks) done s' (part ws')
    unfolding verdict ruling
    turns_on way r masks layer next before h layer_is next_is e came only means =
        accepts (sym h) refl (record {
          registers =
              ap (λ (u : State). u.registers) e
              ∙ ap (λ (F : Form). put r (record { form = F; level = (s.registers r).level; a = (s.registers r).a; b = (s.registers r).b }) s.registers)
              (next_is ∙ ap (form_after way) layer_is);
          masks = ap (λ (u : State). u.masks) e;
          others = only.others;
          written =
              subst (λ (n : ℕ). Meaning G (layer_under (meanings G) way n s.masks masks (map G.meaning (part ws r))) (part ws' r)) layer_is
              (subst (λ (ys : List ℕ). Meaning G ys (part ws' r))
              (ap (λ (ms : List ℕ). layer_under (meanings G) way layer ms masks (map G.meaning (part ws r))) came
              ∙ any_layer (meanings G) way layer s.masks masks (map G.meaning (part ws r)))
              means);
        })

    -- the same of what the checks of a layer found
    pub turned : (way : Direction) (r : ℕ) (masks : List ℕ) (step : Turn) (before : List ℕ) →
        none ≡ judgement G s (length ws) (part ws) (turn way r masks) → Turns s way r masks step → s' ≡ advanced step.register.number step.next masks s →
        before ≡ carried step.layer.number s.masks → Only step.register.number ws ws' →
        Meaning G (layer_under (meanings G) way step.layer.number before masks (map G.meaning (part ws step.register.number))) (part ws' step.register.number) →
        Serves G s (length ws) (part ws) (turn way r masks) done s' (part ws')
    turned way r masks step before h t e came only means =
        at_register (λ (q : ℕ). turn way q masks) done step.register.number r t.register_is
        (λ k.
        turns_on way step.register.number masks step.layer.number step.next before k
        (subst (λ (q : ℕ). step.layer.number ≡ suc (done_of (s.registers q).form)) (sym t.register_is) t.layer_is) t.next_is e came only means)
        h

    joins_on : (o : Operation) (d a b p : ℕ) → none ≡ judgement G s (length ws) (part ws) (join o d a b) → p ≡ G.p →
        s' ≡ with_register d (joined p o (s.registers a) (s.registers b)) s → Only d ws ws' →
        Meaning G (combined (meanings G) o (map G.meaning (part ws a)) (map G.meaning (part ws b))) (part ws' d) →
        Serves G s (length ws) (part ws) (join o d a b) done s' (part ws')
    unfolding verdict ruling
    joins_on o d a b p h ep e only means =
        accepts (sym h) refl (record {
          registers = ap (λ (t : State). t.registers) e ∙ ap (λ (n : ℕ). put d (joined n o (s.registers a) (s.registers b)) s.registers) ep;
          masks = ap (λ (t : State). t.masks) e;
          others = only.others;
          written = means;
        })

    -- the same of what the checks of a join found
    pub joined_as : (operation : declared_operation.Operation) (d a b p : ℕ) (found : Join) → none ≡ judgement G s (length ws) (part ws) (join (operation_of operation) d a b) →
        Joins operation d a b found → p ≡ G.p →
        s' ≡ with_register found.d.number (joined p (operation_of found.operation) (s.registers found.a.number) (s.registers found.b.number)) s →
        Only found.d.number ws ws' →
        Meaning G (combined (meanings G) (operation_of found.operation) (map G.meaning (part ws found.a.number)) (map G.meaning (part ws found.b.number))) (part ws' found.d.number) →
        Serves G s (length ws) (part ws) (join (operation_of operation) d a b) done s' (part ws')
    joined_as operation d a b p found h j ep e only means =
        at_register (λ (x : ℕ). join (operation_of operation) x a b) done found.d.number d j.d_is
        (at_register (λ (x : ℕ). join (operation_of operation) found.d.number x b) done found.a.number a j.a_is
        (at_register (λ (x : ℕ). join (operation_of operation) found.d.number found.a.number x) done found.b.number b j.b_is
        (subst
        (λ (o : declared_operation.Operation).
        none ≡ judgement G s (length ws) (part ws) (join (operation_of o) found.d.number found.a.number found.b.number) →
        Serves G s (length ws) (part ws) (join (operation_of o) found.d.number found.a.number found.b.number) done s' (part ws'))
        j.operation_is
        (λ k. joins_on (operation_of found.operation) found.d.number found.a.number found.b.number p k ep e only means))))
        h

    pub refreshes : (r : ℕ) (bytes : List ℕ) → none ≡ judgement G s (length ws) (part ws) (refresh r bytes) → s' ≡ s → Only r ws ws' →
        Meaning G (map G.meaning (part ws r)) (part ws' r) → Numbered G bytes (part ws' r) → Serves G s (length ws) (part ws) (refresh r bytes) done s' (part ws')
    unfolding verdict ruling
    refreshes r bytes h e only means numbers =
        accepts (sym h) refl (record {
          registers = ap (λ (t : State). t.registers) e;
          masks = ap (λ (t : State). t.masks) e;
          others = only.others;
          written = (means, numbers);
        })

    pub clears : (r : ℕ) → none ≡ judgement G s (length ws) (part ws) (clear r) → s' ≡ with_register r empty_record s → ws' ≡ ws →
        Serves G s (length ws) (part ws) (clear r) done s' (part ws')
    unfolding verdict ruling
    clears r h e same =
        accepts (sym h) refl (record {
          registers = ap (λ (t : State). t.registers) e;
          masks = ap (λ (t : State). t.masks) e;
          others = λ q g. ap (λ (vs : List W). part vs q) same;
          written = tt;
        })

  pub releases : (r out scratch : ℕ) (xs : List ℕ) (F : Form) → none ≡ judgement G s (length ws) (part ws) (release r out scratch) →
      F ≡ (s.registers r).form → xs ≡ plains G (part ws r) → Serves G s (length ws) (part ws) (release r out scratch) (given xs F) s (part ws)
  unfolding verdict ruling
  releases r out scratch xs F h f e =
      accepts (sym h) (rw (e, f)) (record { registers = refl; masks = refl; others = λ q g. refl; written = tt })

  -- the theorem, of a call that leaves records and words as they were
  pub judged : Lawful G → (c : Call) (answer : _) → Serves G s (length ws) (part ws) c answer s (part ws) → Judged G s ws c answer
  judged law c answer served = record {
    undisturbed = λ es left struck h size same. (whole W W G G law law).undisturbed _ es s ws (goes h _ refl size same s ws served);
    detected = λ es left struck h size same. (whole W W G G law law).detected _ es s ws (goes h _ refl size same s ws served);
  }
