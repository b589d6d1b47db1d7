-- One record changed: what the table stands for, and what still holds of it.
use Rattle.std.proofs.Common.{◌≡◌, ℕ, ◌<◌, Bool, true, false, cond, eqb, List, length, set, sym, refl, ◌∙◌, ⊎_elim}
use mathlib.Core.Path.{fun_ext}
use Rattle.std.proofs.lemmas.List.{get_or-set_same, get_or-set_other}
use Rattle.std.proofs.lemmas.Bool.{true≢false, and_parts, and_from, cases_eq, eq-eqb, ne_eqb, eqb-true}
use Rattle.algebra.specs.Masks.{is_list_length}
use Rattle.histories.specs.declared.register.Form.{Form}
use Rattle.histories.specs.declared.register.Form.TheVariants.{Empty, Natural, Transformed, Rising, Falling}
use Rattle.histories.specs.declared.register.Register.{Register}
use Rattle.histories.specs.Forms.{in_work, whole}
use Rattle.histories.specs.Calls.{State, empty_record, form_of, Kind, polynomial, transform}
use Rattle.histories.specs.Serves.{put}
use Rattle.records.specs.Rows.{rows, proper, Proper, Alone, Kept}
use Rattle.records.specs.Tables.{with_register, with_form}

row_at : (rs : List Register) (r : ℕ) (v : Register) → r < length rs → (k : ℕ) → rows (set rs r v) k ≡ put r v (rows rs) k
row_at rs r v h k =
    ⊎_elim
    (λ (e : k ≡ r). rw (eq-eqb k r e, e) (get_or-set_same rs r v empty_record h))
    (λ (e : k ≡ r → ⊥). rw (ne_eqb k r e) (get_or-set_other rs r k v empty_record e))
    (cases_eq k r)

rows_set : (rs : List Register) (r : ℕ) (v : Register) → r < length rs → rows (set rs r v) ≡ put r v (rows rs)
rows_set rs r v h = fun_ext (row_at rs r v h)

-- the state after one record changed, and after a layer
pub changed : (rs : List Register) (d : ℕ) (v w : Register) (ms : List ℕ) → d < length rs → v ≡ w →
    ◌≡◌ {A = State} (record { registers = rows (set rs d v); masks = ms }) (with_register d w (record { registers = rows rs; masks = ms }))
changed rs d v w ms h e = rw (e, rows_set rs d w h)

pub layered : (rs : List Register) (r : ℕ) (F : Form) (ms ms' : List ℕ) → r < length rs → ms ≡ ms' →
    ◌≡◌ {A = State} (record { registers = rows (set rs r (with_form F (rows rs r))); masks = ms }) (record { registers = put r (with_form F (rows rs r)) (rows rs); masks = ms' })
layered rs r F ms ms' h e = rw (e, rows_set rs r (with_form F (rows rs r)) h)

idle_proper : (F : Form) → in_work F ≡ false → proper F ≡ true
idle_proper Empty h = refl
idle_proper Natural h = refl
idle_proper Transformed h = refl
idle_proper (Rising s) h = absurd (true≢false h)
idle_proper (Falling s) h = absurd (true≢false h)

module _ (S : ℕ → Register) (r : ℕ) (v : Register) where
  proper_put : Proper S → proper v.form ≡ true → Proper (put r v S)
  proper_put h e k = go (eqb k r)
    where
      go : (b : Bool) → proper (cond b v (S k)).form ≡ true
      go true = e
      go false = h k

  -- a register in work after the change was in work before, if the new record is not in work
  still : in_work v.form ≡ false → (k : ℕ) → in_work (put r v S k).form ≡ true → in_work (S k).form ≡ true
  still i k = go (eqb k r)
    where
      go : (b : Bool) → in_work (cond b v (S k)).form ≡ true → in_work (S k).form ≡ true
      go true e = absurd (true≢false (sym e ∙ i))
      go false e = e

  -- the register itself is the one in work after the change, if no other was before
  alone_put : Alone S r → Alone (put r v S) r
  alone_put h k = go (eqb k r) refl
    where
      go : (b : Bool) → eqb k r ≡ b → in_work (cond b v (S k)).form ≡ true → k ≡ r
      go true t e = eqb-true k r t
      go false t e = h k e

  work_put : Alone S r → (k : ℕ) → in_work (put r v S k).form ≡ true → in_work v.form ≡ true
  work_put h k e = let same : k ≡ r = alone_put h k e in go (eqb k r) (eq-eqb k r same) e
    where
      go : (b : Bool) → b ≡ true → in_work (cond b v (S k)).form ≡ true → in_work v.form ≡ true
      go true t e = e
      go false t e = absurd (true≢false (sym t))

  idle_put : (count : ℕ) → Kept S count → in_work v.form ≡ false → Kept (put r v S) count
  idle_put count h i =
      record {
        proper = proper_put h.proper (idle_proper v.form i);
        single = λ q k e. let both = and_parts (in_work (put r v S q).form) (in_work (put r v S k).form) e in
            h.single q k (and_from (in_work (S q).form) (in_work (S k).form) (still i q both.0) (still i k both.1));
        listed = λ k e. h.listed k (still i k e);
      }

  layer_put : (count : ℕ) → Proper S → Alone S r → proper v.form ≡ true → (in_work v.form ≡ true → is_list_length count ≡ true) → Kept (put r v S) count
  layer_put count h a p l =
      record {
        proper = proper_put h p;
        single = λ q k e. let both = and_parts (in_work (put r v S q).form) (in_work (put r v S k).form) e in
            alone_put a k both.1 ∙ sym (alone_put a q both.0);
        listed = λ k e. l (work_put a k e);
      }

pub idle_kept : (rs : List Register) (r : ℕ) (v : Register) (count : ℕ) → r < length rs → Kept (rows rs) count →
    in_work v.form ≡ false → Kept (rows (set rs r v)) count
idle_kept rs r v count h k i = rw (rows_set rs r v h) (idle_put (rows rs) r v count k i)

pub layer_kept : (rs : List Register) (r : ℕ) (v : Register) (count : ℕ) → r < length rs → Proper (rows rs) → Alone (rows rs) r →
    proper v.form ≡ true → (in_work v.form ≡ true → is_list_length count ≡ true) → Kept (rows (set rs r v)) count
layer_kept rs r v count h k a p l = rw (rows_set rs r v h) (layer_put (rows rs) r v count k a p l)

-- a whole form is not in work, and what is loaded is whole
pub whole_idle : (F : Form) → whole F ≡ true → in_work F ≡ false
whole_idle Empty h = refl
whole_idle Natural h = refl
whole_idle Transformed h = refl
whole_idle (Rising s) h = sym h
whole_idle (Falling s) h = sym h

pub loaded_idle : (kind : Kind) → in_work (form_of kind) ≡ false
loaded_idle polynomial = refl
loaded_idle transform = refl
