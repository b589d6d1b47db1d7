-- Over whole histories: unreached and reached registers.
use Rattle.std.proofs.Common.{◌≡◌, ℕ, ◌+◌, ◌*◌, ◌/◌, ◌<◌, ◌≤◌, Bool, true, false, cond, leb, List, [], ◌∷◌, length, sym, refl, ap, ◌∙◌, subst, ap₂, subst₂, inl, inr, ⊎_elim, arith, lit≤}
use mathlib.Core.Option.{Option, none, some}
use Rattle.std.proofs.lemmas.Bool.{true≢false, false≢true, both_ways, or_parts}
use Rattle.rings.specs.declared.refusal.Refusal.{Refusal}
use Rattle.rings.specs.declared.refusal.Refusal.TheVariants as refuse
use Rattle.rings.specs.Refusals.{number_of, place_of, first, flaw}
use Rattle.guarded.specs.Model.{Guarded, Lawful}
use Rattle.histories.specs.declared.register.Form.{Form}
use Rattle.histories.specs.declared.register.Register.{Register}
use Rattle.histories.specs.Operations.{witness}
use Rattle.histories.specs.Forms.{occupied, whole, in_form}
use Rattle.histories.specs.Calls.{coefficients, checks, State, part, Call, load, turn, join, refresh, clear, release, Operation, plus, minus, times, factors, rules, ruling, differ, plains, residues, due, word_rules}
use Rattle.histories.specs.Serves.{given, is_refused, reply, or, verdict, Serves, accepts, refuses}
use Rattle.histories.specs.Ledger.{Event, History, opens, goes, Held, nothing, holds, Reach, unreached, reached, ledger, ledger_after, Reads, reach, reach_at, reach_after, Single}
use Rattle.histories.specs.Theorem.{Undisturbed, Detected, early, found, spoiled}
use Rattle.histories.proofs.Asked.{owed, Algebra}
use Rattle.histories.proofs.Basics.{every, no_some, passes, flaw_none, every_flaw, differ_refl, differ_none, Sounds, sound_first, flaw_below, part_size}
use Rattle.histories.proofs.Forms.{layers_of, whole_cases}
use Rattle.histories.proofs.Rulings.{turn_passed, join_passed, refresh_passed, release_passed}
use Rattle.histories.proofs.Local.{Tainted, Local}
use Rattle.histories.proofs.Struck.{strike_local, no_hit}
use Rattle.histories.proofs.Turning.{clear_local}
use Rattle.histories.proofs.Invariant.{Inv, or_none, accepted_keeps}

-- the checks of the arguments and the records refuse with numbers below 26
abbrev Low : Refusal → Type 0
Low x = number_of x ≤ 25

factors_low : (S : ℕ → Register) (o : Operation) (a b : ℕ) → Sounds Low (factors S o a b)
factors_low S plus a b = tt
factors_low S minus a b = tt
factors_low S times a b = (lit≤ tt, λ _. (lit≤ tt, λ _. (lit≤ tt, λ _. (lit≤ tt, λ _. tt))))

rules_low : (p t : ℕ) (S : ℕ → Register) (lent : ℕ) (c : Call) → Sounds Low (rules p t S lent c)
rules_low p t S lent (load kind r xs c bytes) =
    (lit≤ tt, λ _. (lit≤ tt, λ _. (lit≤ tt, λ _. (lit≤ tt, λ _. (λ k e. lit≤ tt, (lit≤ tt, λ _. (λ k e. lit≤ tt, (lit≤ tt, λ _. tt))))))))
rules_low p t S lent (turn way r ms) = (lit≤ tt, λ _. (lit≤ tt, λ _. (lit≤ tt, λ _. (lit≤ tt, λ _. (λ k e. lit≤ tt, (lit≤ tt, λ _. tt))))))
rules_low p t S lent (join o d a b) =
    (lit≤ tt, λ _. (lit≤ tt, λ _. (lit≤ tt, λ _. (lit≤ tt, λ _. (lit≤ tt, λ _. (lit≤ tt, λ _. (lit≤ tt, λ _. (lit≤ tt, λ _. (lit≤ tt, λ _. factors_low S o a b)))))))))
rules_low p t S lent (refresh r bytes) = (lit≤ tt, λ _. (lit≤ tt, λ _. (lit≤ tt, λ _. (λ k e. lit≤ tt, (lit≤ tt, λ _. tt)))))
rules_low p t S lent (clear r) = (lit≤ tt, λ _. (lit≤ tt, λ _. tt))
rules_low p t S lent (release r out scratch) = (lit≤ tt, λ _. (lit≤ tt, λ _. (lit≤ tt, λ _. (lit≤ tt, λ _. (lit≤ tt, λ _. (lit≤ tt, λ _. tt))))))

ruling_low : (p t : ℕ) (S : ℕ → Register) (lent : ℕ) (c : Call) (x : Refusal) → ruling p t S lent c ≡ some x → number_of x ≤ 25
unfolding ruling
ruling_low p t S lent c x h = sound_first Low (rules p t S lent c) (rules_low p t S lent c) x h

pub reply_accepts : {W : Type 0} (G : Guarded W) (s : State) (ws : ℕ → List W) (c : Call) → is_refused (reply G s ws c) ≡ false
reply_accepts G s ws (load k r xs c bytes) = refl
reply_accepts G s ws (turn w r ms) = refl
reply_accepts G s ws (join o d a b) = refl
reply_accepts G s ws (refresh r bytes) = refl
reply_accepts G s ws (clear r) = refl
reply_accepts G s ws (release r out scratch) = refl

module _ {W : Type 0} (G : Guarded W) (Y : Lawful G) (A : Algebra G) where
  -- after the strike, when the call finds the words
  pub strike_keeps : (es : List (Event W)) (s : State) (ws : List W) (e : Event W) → e.left ≡ ws →
      length e.found ≡ 2048 → ((r : ℕ) → e.struck r ≡ false → part e.found r ≡ part e.left r) →
      Inv G (Single es) (ledger es) (reach es) s.masks s.registers (part ws) →
      Inv G (Single (e ∷ es)) (ledger es) (reach_at e es) s.masks s.registers (part e.found)
  strike_keeps es s ws e left size calm inv =
      record {
        at = λ r.
            strike_local G (Single es) (Single (e ∷ es)) (λ t. t.0) r s.masks (ledger es r) (e.struck r) (reach es r) (s.registers r) (part e.left r) (part e.found r)
            (λ t. t.1 r) (calm r) (part_size e.found size r)
            (subst (λ (v : List W). Local G (Single es) r s.masks (ledger es r) (reach es r) (s.registers r) (part v r)) (sym left) (inv.at r));
        sole = inv.sole;
      }

  serve_keeps : (es : List (Event W)) (s : State) (e : Event W) (s' : State) (ws' : ℕ → List W) → Serves G s e.lent (part e.found) e.call e.answer s' ws' →
      Inv G (Single (e ∷ es)) (ledger es) (reach_at e es) s.masks s.registers (part e.found) →
      Inv G (Single (e ∷ es)) (ledger (e ∷ es)) (reach (e ∷ es)) s'.masks s'.registers ws'
  serve_keeps es s e s' ws' (accepts v ans acc) inv =
      let ok : is_refused e.answer ≡ false = ap is_refused ans ∙ reply_accepts G s (part e.found) e.call in
      subst
      (λ (b : Bool).
      Inv G (Single (e ∷ es)) (cond b (ledger es) (ledger_after e.call (ledger es))) (cond b (reach_at e es) (reach_after e.call (reach_at e es)))
      s'.masks s'.registers ws')
      (sym ok)
      (accepted_keeps G Y A (Single (e ∷ es)) (ledger es) (reach_at e es) s e.lent (part e.found) ws' inv e.call s' v (λ t. t.2 ok) acc)
  serve_keeps es s e s' ws' (refuses why v ans ss vs) inv =
      let ok : is_refused e.answer ≡ true = ap is_refused ans in
      subst
      (λ (b : Bool).
      Inv G (Single (e ∷ es)) (cond b (ledger es) (ledger_after e.call (ledger es))) (cond b (reach_at e es) (reach_after e.call (reach_at e es)))
      s'.masks s'.registers ws')
      (sym ok)
      (subst₂ (λ (z : State) (v : ℕ → List W). Inv G (Single (e ∷ es)) (ledger es) (reach_at e es) z.masks z.registers v) (sym ss) (sym vs) inv)

  -- every history keeps the invariant
  pub history_keeps : {es : List (Event W)} {s : State} {ws : List W} → History G es s ws → Inv G (Single es) (ledger es) (reach es) s.masks s.registers (part ws)
  history_keeps (opens ws size) =
      record { at = λ r. clear_local G Y A (Single {W = W} []) r [] (part ws r) (part_size ws size r); sole = λ r k h g. absurd (false≢true h) }
  history_keeps (goes {es} {s} {words = ws} h e left size calm s' ws' served) =
      serve_keeps es s e s' (part ws') served (strike_keeps es s ws e left size calm (history_keeps h))

  -- what a refusal about the words says: a word of an occupied register is no element, or a released one disagrees with its witness
  pub data Reason (s : State) (ws : ℕ → List W) (c : Call) : Refusal → Type 0 where
    low : (x : Refusal) → number_of x ≤ 25 → Reason s ws c x
    stray : (r k : ℕ) → occupied (s.registers r).form ≡ true → flaw G.element (ws r) ≡ some k → Reason s ws c (refuse.Stray (256 * r + k))
    fault : (r out scratch k : ℕ) → c ≡ release r out scratch → whole (s.registers r).form ≡ true → occupied (s.registers r).form ≡ true →
        differ (residues G (ws r)) (due G (s.registers r)) ≡ some k → Reason s ws c (refuse.Fault k)

  words_sound : (s : State) (lent : ℕ) (ws : ℕ → List W) (c : Call) → ruling G.p G.t s.registers lent c ≡ none → Sounds (Reason s ws c) (word_rules G s.registers ws c)
  words_sound s lent ws (load kind r xs c bytes) h = tt
  words_sound s lent ws (turn way r ms) h = (λ k e. stray r k (turn_passed G.p G.t s.registers lent way r ms h).full e, tt)
  words_sound s lent ws (join o d a b) h =
      let n = join_passed G.p G.t s.registers lent o d a b h in
      (λ k e. stray a k n.full_a e, (λ k e. stray b k n.full_b e, tt))
  words_sound s lent ws (refresh r bytes) h = (λ k e. stray r k (refresh_passed G.p G.t s.registers lent r bytes h).full e, tt)
  words_sound s lent ws (clear r) h = tt
  words_sound s lent ws (release r out scratch) h =
      let n = release_passed G.p G.t s.registers lent r out scratch h in
      (λ k e. stray r k n.full e, (λ k e. fault r out scratch k refl n.finished n.full e, tt))

  verdict_sound : (s : State) (lent : ℕ) (ws : ℕ → List W) (c : Call) (x : Refusal) → verdict G s lent ws c ≡ some x → Reason s ws c x
  unfolding verdict
  verdict_sound s lent ws c x e = go (ruling G.p G.t s.registers lent c) refl e
    where
      go : (o : Option Refusal) → ruling G.p G.t s.registers lent c ≡ o → or o (first (word_rules G s.registers ws c)) ≡ some x → Reason s ws c x
      go none h k = sound_first (Reason s ws c) (word_rules G s.registers ws c) (words_sound s lent ws c h) x k
      go (some y) h k = let z : y ≡ x = cc in low x (subst (λ (v : Refusal). number_of v ≤ 25) z (ruling_low G.p G.t s.registers lent c y h))

  -- an unreached register that is not empty holds what it should
  pub kept_of : (T : Type 0) (r : ℕ) (e : List ℕ) (h : Held) (R : Reach W) (x : Register) (words : List W) → R ≡ unreached → occupied x.form ≡ true → Local G T r e h R x words →
      (every G.element words ≡ true) × (residues G words ≡ owed G e x)
  kept_of T r e nothing R x words u f k = absurd (false≢true (sym (ap occupied k.common.layered) ∙ f))
  kept_of T r e (holds g l) unreached x words u f k = (k.bond.elements, k.bond.check)
  kept_of T r e (holds g l) (reached v v') x words u f k = absurd (no_hit u)

  -- in a form that can be released, that is what the witness says
  pub owed_due : (e : List ℕ) (x : Register) → whole x.form ≡ true → owed G e x ≡ due G x
  owed_due e x f = A.on_checks.expected_whole x.form e (witness (checks G) x.a x.b) f (A.checking.witness_good x.a x.b)

  read : (T : Type 0) (r : ℕ) (e : List ℕ) (h : Held) (R : Reach W) (x : Register) (words : List W) → R ≡ unreached → whole x.form ≡ true → Local G T r e h R x words →
      Reads h (given (plains G words) x.form)
  read T r e nothing R x words u f k = absurd (false≢true (sym (ap whole k.common.layered) ∙ f))
  read T r e (holds g l) unreached x words u f k =
      let i = k.bond.plain ∙ A.on_coefficients.expected_whole x.form e g f k.common.layered.2 in
      ⊎_elim (λ n. inl (k.common.layered.1 ∙ ap layers_of n, ap₂ given (i ∙ ap (λ (F : Form). in_form coefficients F g) n) n))
      (λ n. inr (k.common.layered.1 ∙ ap layers_of n, ap₂ given (i ∙ ap (λ (F : Form). in_form coefficients F g) n) n))
      (whole_cases x.form f)
  read T r e (holds g l) (reached v v') x words u f k = absurd (no_hit u)

  -- what is not reached
  module _ (es : List (Event W)) (s : State) (e : Event W)
      (inv : Inv G (Single (e ∷ es)) (ledger es) (reach_at e es) s.masks s.registers (part e.found)) where
    kept_now : (r : ℕ) → reach_at e es r ≡ unreached → occupied (s.registers r).form ≡ true → (every G.element (part e.found r) ≡ true) × (residues G (part e.found r) ≡ owed G s.masks (s.registers r))
    kept_now r u f = kept_of (Single (e ∷ es)) r s.masks (ledger es r) (reach_at e es r) (s.registers r) (part e.found r) u f (inv.at r)

    stray_out : {x : Refusal} (i : ℕ) → Reason s (part e.found) e.call x → number_of x ≡ 26 → place_of x ≡ i → reach_at e es (i / 256) ≡ unreached → ⊥
    stray_out i (low x l) n p u = omega arith
    stray_out i (stray r k full bad) n p u =
        let c = (inv.at r).common in
        let b : k < 256 = omega (arith, flaw_below G.element (part e.found r) k bad, c.size (c.inside full)) in
        let d : i / 256 ≡ r = omega arith in
        no_some (sym bad ∙ every_flaw G.element (part e.found r) (kept_now r (subst (λ (z : ℕ). reach_at e es z ≡ unreached) d u) full).0)
    stray_out i (fault r out scratch k c f full bad) n p u = omega arith

    fault_out : {x : Refusal} (r out scratch : ℕ) → Reason s (part e.found) e.call x → e.call ≡ release r out scratch → number_of x ≡ 27 → reach_at e es r ≡ unreached → ⊥
    fault_out r out scratch (low x l) c n u = omega arith
    fault_out r out scratch (stray d k full bad) c n u = omega arith
    fault_out r out scratch (fault d out' scratch' k c' f full bad) c n u =
        let same : d ≡ r = cc in
        let u' = subst (λ (z : ℕ). reach_at e es z ≡ unreached) (sym same) u in
        no_some (sym bad ∙ ap (λ (z : List ℕ). differ z (due G (s.registers d))) ((kept_now d u' full).1 ∙ owed_due s.masks (s.registers d) f) ∙ differ_refl (due G (s.registers d)))

    whole_now : (c : Call) (r out scratch : ℕ) → c ≡ release r out scratch → verdict G s e.lent (part e.found) c ≡ none → whole (s.registers r).form ≡ true
    unfolding verdict
    whole_now c r out scratch i v =
        let v' = subst (λ (z : Call). verdict G s e.lent (part e.found) z ≡ none) i v in
        (release_passed G.p G.t s.registers e.lent r out scratch
        (or_none (ruling G.p G.t s.registers e.lent (release r out scratch)) (first (word_rules G s.registers (part e.found) (release r out scratch))) v').0).finished

    undisturbed_call : (s' : State) (ws' : ℕ → List W) → Serves G s e.lent (part e.found) e.call e.answer s' ws' → Undisturbed e es
    undisturbed_call s' ws' (accepts v ans acc) =
        let ok : is_refused e.answer ≡ false = ap is_refused ans ∙ reply_accepts G s (part e.found) e.call in
        record {
          no_stray = λ i a u. false≢true (sym ok ∙ ap is_refused a);
          no_fault = λ r out scratch k c a u. false≢true (sym ok ∙ ap is_refused a);
          hands_out = λ r out scratch c a u.
              subst (Reads (ledger es r)) (sym (ans ∙ ap (reply G s (part e.found)) c))
              (read (Single (e ∷ es)) r s.masks (ledger es r) (reach_at e es r) (s.registers r) (part e.found r) u (whole_now e.call r out scratch c v) (inv.at r));
        }
    undisturbed_call s' ws' (refuses why v ans ss vs) =
        let q = verdict_sound s e.lent (part e.found) e.call why v in
        record {
          no_stray = λ i a u. stray_out i q (cc) (cc) u;
          no_fault = λ r out scratch k c a u. fault_out r out scratch q c (cc) u;
          hands_out = λ r out scratch c a u. absurd (true≢false (sym (ap is_refused ans) ∙ a));
        }

    -- what is reached
    release_early : (r out scratch : ℕ) (x : Refusal) → ruling G.p G.t s.registers e.lent (release r out scratch) ≡ some x → leb (number_of x) 21 ≡ true
    unfolding ruling
    release_early r out scratch x h =
        sound_first (λ y. leb (number_of y) 21 ≡ true) (rules G.p G.t s.registers e.lent (release r out scratch))
        (refl, λ _. (refl, λ _. (refl, λ _. (refl, λ _. (refl, λ _. (refl, λ _. tt)))))) x h

    release_refused : (r out scratch : ℕ) (why : Refusal) → verdict G s e.lent (part e.found) (release r out scratch) ≡ some why → leb (number_of why) 21 ≡ false →
        every G.element (part e.found r) ≡ true → residues G (part e.found r) ≡ owed G s.masks (s.registers r) → ⊥
    unfolding verdict
    release_refused r out scratch why v late el same = go (ruling G.p G.t s.registers e.lent (release r out scratch)) refl v
      where
        go : (o : Option Refusal) → ruling G.p G.t s.registers e.lent (release r out scratch) ≡ o →
            or o (first (word_rules G s.registers (part e.found) (release r out scratch))) ≡ some why → ⊥
        go none h k =
            let f = (release_passed G.p G.t s.registers e.lent r out scratch h).finished in
            let clean : first (word_rules G s.registers (part e.found) (release r out scratch)) ≡ none =
            rw (every_flaw G.element (part e.found r) el)
            (rw (ap (λ (z : List ℕ). differ z (due G (s.registers r))) (same ∙ owed_due s.masks (s.registers r) f) ∙ differ_refl (due G (s.registers r)))) in
            no_some (sym k ∙ clean)
        go (some x) h k =
            let z : x ≡ why = cc in
            both_ways (leb (number_of why) 21) late (ap (λ (y : Refusal). leb (number_of y) 21) (sym z) ∙ release_early r out scratch x h)

    tainted_of : (T : Type 0) (r : ℕ) (ms : List ℕ) (h : Held) (R : Reach W) (x : Register) (words w w' : List W) → R ≡ reached w w' → T → Local G T r ms h R x words → Tainted G w w' ms x words
    tainted_of T r ms nothing unreached x words w w' i t k = absurd (no_hit (sym i))
    tainted_of T r ms nothing (reached v v') x words w w' i t k = absurd k.bond
    tainted_of T r ms (holds f l) unreached x words w w' i t k = absurd (no_hit (sym i))
    tainted_of T r ms (holds f l) (reached v v') x words w w' i t k =
        let p : v ≡ w = cc in
        let q : v' ≡ w' = cc in
        subst₂ (λ y y'. Tainted G y y' ms x words) p q (k.bond t)

    unspoiled : (ms : List ℕ) (x : Register) (words w w' : List W) → Tainted G w w' ms x words → every G.element words ≡ true → residues G words ≡ owed G ms x → spoiled G w w' ≡ false
    unspoiled ms x words w w' k el now = go (every G.element w') refl
      where
        go : (b : Bool) → every G.element w' ≡ b → spoiled G w w' ≡ false
        go true g =
            let d : differ (residues G w) (residues G w') ≡ none = ap (λ (z : List ℕ). differ z (residues G w')) (k.back g now) ∙ differ_refl (residues G w') in
            rw (every_flaw G.element w' g, d)
        go false g = absurd (both_ways (every G.element words) (ap (every G.element) (k.frozen g) ∙ g) el)

    not_found : (o : Option ℕ) → found o ≡ false → o ≡ none
    not_found none h = refl
    not_found (some k) h = absurd (true≢false h)

    detected_call : (s' : State) (ws' : ℕ → List W) → Serves G s e.lent (part e.found) e.call e.answer s' ws' → Detected G e es
    unfolding verdict
    detected_call s' ws' (accepts v ans acc) r out scratch w w' single c i late =
        let k = tainted_of (Single (e ∷ es)) r s.masks (ledger es r) (reach_at e es r) (s.registers r) (part e.found r) w w' i single (inv.at r) in
        let v' = subst (λ (z : Call). verdict G s e.lent (part e.found) z ≡ none) c v in
        let n = passes (word_rules G s.registers (part e.found) (release r out scratch))
        (or_none (ruling G.p G.t s.registers e.lent (release r out scratch)) (first (word_rules G s.registers (part e.found) (release r out scratch))) v').1 in
        ap is_refused ans ∙ reply_accepts G s (part e.found) e.call
        ∙ sym (unspoiled s.masks (s.registers r) (part e.found r) w w' k (flaw_none G.element (part e.found r) n.0)
        (differ_none (residues G (part e.found r)) (due G (s.registers r)) n.1.0 ∙ sym (owed_due s.masks (s.registers r) (whole_now e.call r out scratch c v))))
    detected_call s' ws' (refuses why v ans ss vs) r out scratch w w' single c i late = ap is_refused ans ∙ sym (go (spoiled G w w') refl)
      where
        k : Tainted G w w' s.masks (s.registers r) (part e.found r)
        k = tainted_of (Single (e ∷ es)) r s.masks (ledger es r) (reach_at e es r) (s.registers r) (part e.found r) w w' i single (inv.at r)

        go : (b : Bool) → spoiled G w w' ≡ b → spoiled G w w' ≡ true
        go true h = h
        go false h =
            let n = or_parts (found (flaw G.element w')) (found (differ (residues G w) (residues G w'))) h in
            let g = flaw_none G.element w' (not_found (flaw G.element w') n.0) in
            let d = differ_none (residues G w) (residues G w') (not_found (differ (residues G w) (residues G w')) n.1) in
            absurd (release_refused r out scratch why (subst (λ (z : Call). verdict G s e.lent (part e.found) z ≡ some why) c v) (sym (ap early ans) ∙ late) (k.sound g) (k.there g d))

  pub undisturbed_stands : {e : Event W} {es : List (Event W)} {s : State} {ws : List W} → History G (e ∷ es) s ws → Undisturbed e es
  undisturbed_stands (goes {es} {s = z} {words = vs} h e left size calm s ws served) = undisturbed_call es z e (strike_keeps es z vs e left size calm (history_keeps h)) s (part ws) served

  pub detected_stands : {e : Event W} {es : List (Event W)} {s : State} {ws : List W} → History G (e ∷ es) s ws → Detected G e es
  detected_stands (goes {es} {s = z} {words = vs} h e left size calm s ws served) = detected_call es z e (strike_keeps es z vs e left size calm (history_keeps h)) s (part ws) served
