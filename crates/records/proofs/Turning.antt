-- What the checks of a layer and the table's invariant give.
use Rattle.std.proofs.Common.{◌≡◌, ℕ, suc, ◌-◌, ◌<◌, ◌≤◌, Bool, true, false, cond, not, ◌&&◌, ◌||◌, eqb, leb, List, length, sym, refl, ap, ◌∙◌, ⊎_elim, arith}
use mathlib.Core.Option.{none}
use Rattle.std.proofs.lemmas.Bool.Decides.{nat_tests}
use Rattle.std.proofs.lemmas.List.{get_or_past}
use Rattle.std.proofs.lemmas.Bool.{true≢false, and_parts, and_from, or_cases, or_from, cases_eq, cases_lt, eq-eqb, ne_eqb, eqb-true, leb-true, le-leb}
use Rattle.rings.specs.Refusals.{flaw}
use Rattle.algebra.specs.declared.Direction.{Direction}
use Rattle.algebra.specs.declared.Direction.TheVariants.{Forward, Inverse}
use Rattle.algebra.specs.Masks.{is_list_length, suits}
use Rattle.histories.specs.declared.register.Form.{Form}
use Rattle.histories.specs.declared.register.Form.TheVariants.{Empty, Natural, Transformed, Rising, Falling}
use Rattle.histories.specs.declared.register.Register.{Register}
use Rattle.histories.specs.Forms.{in_work, done_of, form_after}
use Rattle.histories.specs.Calls.{empty_record, eight, free}
use Rattle.records.specs.declared.turn.Turn.{Turn}
use Rattle.records.specs.Rows.{rows, proper, Alone, Single, Kept}
use Rattle.records.specs.Tables.{carried}
use Rattle.records.specs.Turns.{Turns}
use Rattle.records.proofs.Eights.{each_of_eight}

-- between two layers there is a list of masks
middle : (s : ℕ) (list : List ℕ) → (leb 1 s && leb s 6) ≡ true → is_list_length (length list) ≡ true → suits 7 (suc s - 1) (carried (suc s) list) ≡ true
middle s list h e =
    let l : 1 ≤ s = leb-true 1 s (and_parts (leb 1 s) (leb s 6) h).0 in
    let m : s ≤ 6 = leb-true s 6 (and_parts (leb 1 s) (leb s 6) h).1 in
    let less : suc s - 1 ≡ s = omega arith in
    rw (ne_eqb (suc s) 1 (λ q. omega arith), less, or_from (eqb s 0) (eqb s 7) (ne_eqb s 0 (λ q. omega arith)) (ne_eqb s 7 (λ q. omega arith))) e

carried_suits : (F : Form) (list : List ℕ) → proper F ≡ true → (in_work F ≡ true → is_list_length (length list) ≡ true) →
    suits 7 (suc (done_of F) - 1) (carried (suc (done_of F)) list) ≡ true
carried_suits Empty list p h = refl
carried_suits Natural list p h = refl
carried_suits Transformed list p h = refl
carried_suits (Rising s) list p h = middle s list p (h refl)
carried_suits (Falling s) list p h = middle s list p (h refl)

-- the form after a layer
after_proper : (way : Direction) (s : ℕ) → 1 ≤ s → s ≤ 7 → proper (form_after way s) ≡ true
after_proper Forward s l m =
    ⊎_elim (λ (e : s ≡ 7). rw (eq-eqb s 7 e)) (λ (e : s ≡ 7 → ⊥). rw (ne_eqb s 7 e) (and_from (leb 1 s) (leb s 6) (le-leb 1 s l) (le-leb s 6 (omega arith)))) (cases_eq s 7)
after_proper Inverse s l m =
    ⊎_elim (λ (e : s ≡ 7). rw (eq-eqb s 7 e)) (λ (e : s ≡ 7 → ⊥). rw (ne_eqb s 7 e) (and_from (leb 1 s) (leb s 6) (le-leb 1 s l) (le-leb s 6 (omega arith)))) (cases_eq s 7)

before_last : (way : Direction) (s : ℕ) → in_work (form_after way s) ≡ true → eqb s 7 ≡ false
before_last Forward s = go (eqb s 7)
  where
    go : (b : Bool) → in_work (cond b Transformed (Rising s)) ≡ true → b ≡ false
    go true h = sym h
    go false h = refl
before_last Inverse s = go (eqb s 7)
  where
    go : (b : Bool) → in_work (cond b Natural (Falling s)) ≡ true → b ≡ false
    go true h = sym h
    go false h = refl

after_listed : (way : Direction) (s : ℕ) (list : List ℕ) → 1 ≤ s → suits 7 s list ≡ true → in_work (form_after way s) ≡ true → is_list_length (length list) ≡ true
after_listed way s list l h w = rw (or_from (eqb s 0) (eqb s 7) (ne_eqb s 0 (λ q. omega arith)) (before_last way s w)) at h

-- a list that suits has at most 128 bytes
list_short : (n : ℕ) → is_list_length n ≡ true → n ≤ 128
list_short n h = grind (arith, nat_tests)

suits_short : (s : ℕ) (list : List ℕ) → suits 7 s list ≡ true → length list ≤ 128
suits_short s list = go (eqb s 0 || eqb s 7)
  where
    go : (b : Bool) → cond b (eqb (length list) 0) (is_list_length (length list)) ≡ true → length list ≤ 128
    go true h = omega (arith, eqb-true (length list) 0 h)
    go false h = list_short (length list) h

-- a register whose form is not in work, but for r
others : (S : ℕ → Register) (r : ℕ) → Single S → ((k : ℕ) → 8 ≤ k → in_work (S k).form ≡ false) → flaw (free S r) eight ≡ none → Alone S r
others S r single beyond h k w =
    ⊎_elim
    (λ (l : k < 8). go (in_work (S r).form) refl (in_work (S k).form) w (each_of_eight (free S r) h k l))
    (λ (l : 8 ≤ k). absurd (true≢false (sym w ∙ beyond k l)))
    (cases_lt k 8)
  where
    go : (b : Bool) → in_work (S r).form ≡ b → (e : Bool) → e ≡ true → (b || (eqb k r || not e)) ≡ true → k ≡ r
    go true i e q f = single r k (and_from (in_work (S r).form) (in_work (S k).form) i w)
    go false i true q f = ⊎_elim (λ t. eqb-true k r t) (λ t. absurd (true≢false (sym t))) (or_cases (eqb k r) false f)
    go false i false q f = absurd (true≢false (sym q))

-- no register beyond the eight is in work
beyond_idle : (rs : List Register) → length rs ≡ 8 → (k : ℕ) → 8 ≤ k → in_work (rows rs k).form ≡ false
beyond_idle rs size k l = ap (λ (x : Register). in_work x.form) (get_or_past rs k empty_record (omega arith))

-- what a layer that passes them may count on
pub turns_found : (rs : List Register) (list : List ℕ) (way : Direction) (masks : List ℕ) (x : Turn) →
    Kept (rows rs) (length list) → length rs ≡ 8 → x.layer.number ≡ suc (done_of (rows rs x.register.number).form) →
    x.next ≡ form_after way x.layer.number → flaw (free (rows rs) x.register.number) eight ≡ none → suits 7 x.layer.number masks ≡ true →
    Turns (record { registers = rows rs; masks = list }) way x.register.number masks x
turns_found rs list way masks x k size e n f out =
    let layer = x.layer in
    record {
      register_is = refl;
      layer_is = e;
      next_is = n;
      outgoing = out;
      incoming = rw e (carried_suits (rows rs x.register.number).form list (k.proper x.register.number) (k.listed x.register.number));
      fine = rw n (after_proper way layer.number layer.first layer.last);
      alone = others (rows rs) x.register.number k.single (beyond_idle rs size) f;
      few = suits_short layer.number masks out;
      suited = rw n (after_listed way layer.number masks layer.first out);
    }
