-- The invariant of a history, and that each call keeps it.
use Rattle.std.proofs.Common.{◌≡◌, ℕ, Bool, true, false, not, ◌||◌, eqb, List, length, sym, refl, ap, ◌∙◌, subst, subst₂, ⊎_elim}
use mathlib.Core.Option.{Option, none, some}
use Rattle.std.proofs.lemmas.Bool.{eqb-false, both_ways, or_cases, not-true}
use Rattle.algebra.specs.declared.Direction.{Direction}
use Rattle.rings.specs.declared.refusal.Refusal.{Refusal}
use Rattle.rings.specs.Refusals.{first}
use Rattle.guarded.specs.Model.{Guarded, Lawful}
use Rattle.histories.specs.declared.register.Form.{Form}
use Rattle.histories.specs.declared.register.Form.TheVariants.{Empty, Natural, Transformed, Rising, Falling}
use Rattle.histories.specs.declared.register.Register.{Register}
use Rattle.histories.specs.Forms.{in_work, occupied}
use Rattle.histories.specs.Calls.{State, empty_record, Call, load, turn, join, refresh, clear, release, free, ruling, word_rules}
use Rattle.histories.specs.Serves.{put, Accepted, Written, loaded, turned, joined, registers_after, masks_after, writes, or, verdict}
use Rattle.histories.specs.Ledger.{Held, nothing, Reach, unreached, moved, held_of, either, put_in, ledger_after, reach_after, Apart}
use Rattle.histories.proofs.Asked.{Algebra}
use Rattle.histories.proofs.Basics.{no_some, passes, flaw_none, pick, split, frame1, frame2, frame3}
use Rattle.histories.proofs.Forms.{whole_idle, joins_whole, same_forms}
use Rattle.histories.proofs.Rulings.{load_passed, turn_passed, TurnPassed, join_passed, factors_passed}
use Rattle.histories.proofs.Local.{Local}
use Rattle.histories.proofs.Turning.{turn_local, refresh_local, load_local, load_idle, clear_local, remask_local}
use Rattle.histories.proofs.Joining.{join_local}

pub or_none : (x : Option Refusal) (o : Option Refusal) → or x o ≡ none → (x ≡ none) × (o ≡ none)
or_none none o h = (refl, h)
or_none (some x) o h = absurd (no_some h)

-- at most one register is in work
abbrev pub Sole : (ℕ → Register) → Type 0
Sole S = (r k : ℕ) → in_work (S r).form ≡ true → in_work (S k).form ≡ true → r ≡ k

put_idle : (d : ℕ) (x : Register) (S : ℕ → Register) → in_work x.form ≡ false → (r : ℕ) → in_work (put d x S r).form ≡ true → in_work (S r).form ≡ true
put_idle d x S i =
    frame1 (λ (r : ℕ) (y : Register). in_work y.form ≡ true → in_work (S r).form ≡ true) d x S (λ h. absurd (both_ways (in_work x.form) i h)) (λ r _ h. h)

sole_idle : (d : ℕ) (x : Register) (S : ℕ → Register) → in_work x.form ≡ false → Sole S → Sole (put d x S)
sole_idle d x S i sole r k h g = sole r k (put_idle d x S i r h) (put_idle d x S i k g)

put_only : (d : ℕ) (x : Register) (S : ℕ → Register) → ((r : ℕ) → eqb r d ≡ false → in_work (S r).form ≡ false) → (r : ℕ) → in_work (put d x S r).form ≡ true → r ≡ d
put_only d x S idle =
    frame1 (λ (r : ℕ) (y : Register). in_work y.form ≡ true → r ≡ d) d x S (λ h. refl) (λ r n h. absurd (both_ways (in_work (S r).form) (idle r n) h))

module _ {W : Type 0} (G : Guarded W) where
  pub record Inv (T : Type 0) (L : ℕ → Held) (R : ℕ → Reach W) (e : List ℕ) (S : ℕ → Register) (ws : ℕ → List W) : Type 0 where
    pub at : (r : ℕ) → Local G T r e (L r) (R r) (S r) (ws r)
    pub sole : Sole S

module _ {W : Type 0} (G : Guarded W) (Y : Lawful G) (A : Algebra G) (T : Type 0) (L : ℕ → Held) (R : ℕ → Reach W) (s : State) (lent : ℕ) (ws ws' : ℕ → List W)
    (inv : Inv G T L R s.masks s.registers ws) where
  idle : (w : Direction) (d : ℕ) → TurnPassed G.p G.t s.registers lent w d → (r : ℕ) → eqb r d ≡ false → in_work (s.registers r).form ≡ false
  idle w d h r n = go (in_work (s.registers r).form) refl
    where
      occ : (F : Form) → in_work F ≡ true → occupied F ≡ true
      occ Empty k = k
      occ Natural k = refl
      occ Transformed k = refl
      occ (Rising s) k = refl
      occ (Falling s) k = refl

      go : (b : Bool) → in_work (s.registers r).form ≡ b → in_work (s.registers r).form ≡ false
      go false e = e
      go true e =
          let f = pick (free s.registers d) h.alone r ((inv.at r).common.inside (occ (s.registers r).form e)) in
          absurd (⊎_elim (λ g. eqb-false r d n (inv.sole r d e g))
          (λ g. ⊎_elim (λ m. both_ways (eqb r d) n m) (λ m. both_ways (in_work (s.registers r).form) (not-true (in_work (s.registers r).form) m) e)
          (or_cases (eqb r d) (not (in_work (s.registers r).form)) g))
          (or_cases (in_work (s.registers d).form) (eqb r d || not (in_work (s.registers r).form)) f))

  -- the words of a register that is not written
  stays : (r : ℕ) (e : List ℕ) (h : Held) (Q : Reach W) (x : Register) → ws' r ≡ ws r → Local G T r e h Q x (ws r) → Local G T r e h Q x (ws' r)
  stays r e h Q x same k = subst (λ z. Local G T r e h Q x z) (sym same) k

  kept : (c : Call) → ruling G.p G.t s.registers lent c ≡ none → first (word_rules G s.registers ws c) ≡ none → (T → Apart c R) →
      ((r : ℕ) → writes c r ≡ false → ws' r ≡ ws r) → Written G s ws c ws' →
      Inv G T (ledger_after c L) (reach_after c R) (masks_after s.masks c) (registers_after G.p s.registers c) ws'
  kept (load k r xs c bytes) ok fine apart others written =
      let h = load_passed G.p G.t s.registers lent k r xs c bytes ok in
      record {
        at =
            frame3 (λ d x y z. Local G T d s.masks x y z (ws' d)) r (put_in k xs) unreached (loaded k c) L R s.registers
            (load_local G Y A T k r xs c bytes s.masks (ws' r) h.inside h.good h.below written)
            (λ d n. stays d s.masks (L d) (R d) (s.registers d) (others d n) (inv.at d));
        sole = sole_idle r (loaded k c) s.registers (load_idle G Y A k) inv.sole;
      }
  kept (turn w r ms) ok fine apart others written =
      let h = turn_passed G.p G.t s.registers lent w r ms ok in
      let el = flaw_none G.element (ws r) (passes (word_rules G s.registers ws (turn w r ms)) fine).0 in
      record {
        at =
            frame2 (λ d x z. Local G T d ms x (R d) z (ws' d)) r (moved w (L r)) (turned w (s.registers r)) L s.registers
            (turn_local G Y A w r s.masks ms (s.registers r) (ws r) (ws' r) h.inside h.turning el written T (L r) (R r) (inv.at r))
            (λ d n. stays d ms (L d) (R d) (s.registers d) (others d n)
            (remask_local G Y A T d s.masks ms (L d) (R d) (s.registers d) (ws d) (idle w r h d n) (inv.at d)));
        sole = λ d k u v. put_only r (turned w (s.registers r)) s.registers (idle w r h) d u ∙ sym (put_only r (turned w (s.registers r)) s.registers (idle w r h) k v);
      }
  kept (join o d a b) ok fine apart others written =
      let h = join_passed G.p G.t s.registers lent o d a b ok in
      let n = passes (word_rules G s.registers ws (join o d a b)) fine in
      let S = s.registers in
      record {
        at =
            frame3 (λ r x y z. Local G T r s.masks x y z (ws' r)) d (held_of o (L a) (L b)) (either (R a) (R b)) (joined G.p o (S a) (S b)) L R S
            (join_local G Y A o a b d s.masks (S a) (S b) (ws a) (ws b) (ws' d) (L a) (L b) h.inside_d h.inside_a h.inside_b h.full_a h.full_b h.joining
            (same_forms (S a).form (S b).form h.same) (factors_passed S o a b h.factored) (flaw_none G.element (ws a) n.0) (flaw_none G.element (ws b) n.1.0) written
            (inv.at a).common (inv.at b).common T (R a) (R b) apart (inv.at a).bond (inv.at b).bond)
            (λ r n. stays r s.masks (L r) (R r) (S r) (others r n) (inv.at r));
        sole = sole_idle d (joined G.p o (S a) (S b)) S (whole_idle (S a).form (joins_whole o (S a).form h.joining)) inv.sole;
      }
  kept (refresh r bytes) ok fine apart others written =
      let el = flaw_none G.element (ws r) (passes (word_rules G s.registers ws (refresh r bytes)) fine).0 in
      record {
        at =
            split (λ d. Local G T d s.masks (L d) (R d) (s.registers d) (ws' d)) r
            (refresh_local G Y A r s.masks (s.registers r) (ws r) (ws' r) el written.0 T (L r) (R r) (inv.at r))
            (λ d n. stays d s.masks (L d) (R d) (s.registers d) (others d n) (inv.at d));
        sole = inv.sole;
      }
  kept (clear r) ok fine apart others written =
      record {
        at =
            frame3 (λ d x y z. Local G T d s.masks x y z (ws' d)) r nothing unreached empty_record L R s.registers
            (clear_local G Y A T r s.masks (ws' r) (λ i. ap length (others r refl) ∙ (inv.at r).common.size i))
            (λ d n. stays d s.masks (L d) (R d) (s.registers d) (others d refl) (inv.at d));
        sole = sole_idle r empty_record s.registers refl inv.sole;
      }
  kept (release r out scratch) ok fine apart others written =
      record { at = λ d. stays d s.masks (L d) (R d) (s.registers d) (others d refl) (inv.at d); sole = inv.sole }

  pub accepted_keeps : (c : Call) (s' : State) → verdict G s lent ws c ≡ none → (T → Apart c R) → Accepted G s ws c s' ws' →
      Inv G T (ledger_after c L) (reach_after c R) s'.masks s'.registers ws'
  unfolding verdict
  accepted_keeps c s' v apart acc =
      let n = or_none (ruling G.p G.t s.registers lent c) (first (word_rules G s.registers ws c)) v in
      subst₂ (λ e S. Inv G T (ledger_after c L) (reach_after c R) e S ws') (sym acc.masks) (sym acc.registers)
      (kept c n.0 n.1 apart acc.others acc.written)
