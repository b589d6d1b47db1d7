-- Two workspaces that nothing strikes answer alike.
use Rattle.std.proofs.Common.{◌≡◌, ℕ, Bool, true, false, cond, List, [], ◌∷◌, sym, refl, ap, ◌∙◌, subst, ap₂}
use mathlib.Core.Option.{Option, none, some}
use Rattle.std.proofs.lemmas.Bool.{true≢false, false≢true, both_ways}
use Rattle.rings.specs.declared.refusal.Refusal.{Refusal}
use Rattle.rings.specs.declared.refusal.Refusal.TheVariants as refuse
use Rattle.rings.specs.Refusals.{number_of, place_of, Check, test, scan, first, flaw}
use Rattle.guarded.specs.Model.{Guarded, Lawful}
use Rattle.histories.specs.declared.register.Form.{Form}
use Rattle.histories.specs.declared.register.Register.{Register}
use Rattle.histories.specs.Forms.{occupied, whole, in_form}
use Rattle.histories.specs.Calls.{coefficients, State, part, Call, load, turn, join, refresh, clear, release, rules, ruling, differ, plains, residues, due, word_rules}
use Rattle.histories.specs.Serves.{Answer, given, refused, is_refused, reply, registers_after, or, verdict, Serves, accepts, refuses}
use Rattle.histories.specs.Ledger.{Event, History, opens, goes, Held, nothing, holds, Reach, unreached, reached, struck_reach, either, ledger, ledger_after, reach, reach_at, reach_after, Single}
use Rattle.histories.specs.Theorem.{Like, load_like, turn_like, join_like, refresh_like, clear_like, release_like, blames, Twins, start, also, answers, Alike}
use Rattle.histories.proofs.Asked.{Algebra, owed}
use Rattle.histories.proofs.Basics.{every, no_some, every_flaw, differ_refl, frame1}
use Rattle.histories.proofs.Rulings.{turn_passed, join_passed, refresh_passed, release_passed}
use Rattle.histories.proofs.Local.{Local}
use Rattle.histories.proofs.Struck.{no_hit}
use Rattle.histories.proofs.Invariant.{Inv}
use Rattle.histories.proofs.Main.{strike_keeps, history_keeps, kept_of, owed_due}

-- the refusals that the premise excludes
abbrev hidden : Call → Refusal → Bool
hidden c x = blames c (refused (number_of x) (place_of x))

abbrev hides : Call → Option Refusal → Bool
hides c none = false
hides c (some x) = hidden c x

-- the checks of two calls that differ in masks and redundancy bytes: the same, or each with a refusal that the premise excludes
data Paired (c d : Call) : List (Check Refusal) → List (Check Refusal) → Type 0 where
  ended : Paired c d [] []
  shared : (x : Check Refusal) {xs ys : List (Check Refusal)} → Paired c d xs ys → Paired c d (x ∷ xs) (x ∷ ys)
  own_test : (b b' : Bool) (x : Refusal) {xs ys : List (Check Refusal)} → hidden c x ≡ true → hidden d x ≡ true → Paired c d xs ys → Paired c d (test b x ∷ xs) (test b' x ∷ ys)
  own_scan : (o o' : Option ℕ) (f : ℕ → Refusal) {xs ys : List (Check Refusal)} → ((k : ℕ) → hidden c (f k) ≡ true) → ((k : ℕ) → hidden d (f k) ≡ true) → Paired c d xs ys →
      Paired c d (scan o f ∷ xs) (scan o' f ∷ ys)

paired_same : {c d : Call} {xs ys : List (Check Refusal)} → Paired c d xs ys → hides c (first xs) ≡ false → hides d (first ys) ≡ false → first xs ≡ first ys
paired_same ended h g = refl
paired_same (shared (test true x) p) h g = paired_same p h g
paired_same (shared (test false x) p) h g = refl
paired_same (shared (scan none f) p) h g = paired_same p h g
paired_same (shared (scan (some k) f) p) h g = refl
paired_same (own_test true true x u u' p) h g = paired_same p h g
paired_same {c} {d} (own_test true false x u u' p) h g = absurd (both_ways (hidden d x) g u')
paired_same {c} {d} (own_test false b' x u u' p) h g = absurd (both_ways (hidden c x) h u)
paired_same (own_scan none none f u u' p) h g = paired_same p h g
paired_same {c} {d} (own_scan none (some k) f u u' p) h g = absurd (both_ways (hidden d (f k)) g (u' k))
paired_same {c} {d} (own_scan (some k) o' f u u' p) h g = absurd (both_ways (hidden c (f k)) h (u k))

paired_refl : {c d : Call} (xs : List (Check Refusal)) → Paired c d xs xs
paired_refl [] = ended
paired_refl (x ∷ xs) = shared x (paired_refl xs)

like_rules : {c c' : Call} → Like c c' → (p t t' : ℕ) (S : ℕ → Register) (lent : ℕ) → Paired c c' (rules p t S lent c) (rules p t' S lent c')
like_rules (load_like k r xs c bytes bytes') p t t' S lent =
    shared _ (shared _ (own_test _ _ _ refl refl (shared _ (shared _ (shared _ (own_scan _ _ refuse.Digit (λ k. refl) (λ k. refl) (shared _ ended)))))))
like_rules (turn_like w r ms ms') p t t' S lent = shared _ (shared _ (shared _ (shared _ (shared _ (own_test _ _ _ refl refl ended)))))
like_rules (join_like o d a b) p t t' S lent = paired_refl (rules p t S lent (join o d a b))
like_rules (refresh_like r bytes bytes') p t t' S lent = shared _ (own_test _ _ _ refl refl (shared _ (own_scan _ _ refuse.Digit (λ k. refl) (λ k. refl) (shared _ ended))))
like_rules (clear_like r) p t t' S lent = paired_refl (rules p t S lent (clear r))
like_rules (release_like r out scratch) p t t' S lent = paired_refl (rules p t S lent (release r out scratch))

like_ruling : {c c' : Call} → Like c c' → (p t t' : ℕ) (S : ℕ → Register) (lent : ℕ) → hides c (ruling p t S lent c) ≡ false → hides c' (ruling p t' S lent c') ≡ false →
    ruling p t S lent c ≡ ruling p t' S lent c'
unfolding ruling
like_ruling l p t t' S lent h g = paired_same (like_rules l p t t' S lent) h g

like_registers : {c c' : Call} → Like c c' → (p : ℕ) (S : ℕ → Register) → registers_after p S c ≡ registers_after p S c'
like_registers (load_like k r xs c bytes bytes') p S = refl
like_registers (turn_like w r ms ms') p S = refl
like_registers (join_like o d a b) p S = refl
like_registers (refresh_like r bytes bytes') p S = refl
like_registers (clear_like r) p S = refl
like_registers (release_like r out scratch) p S = refl

like_ledger : {c c' : Call} → Like c c' → (L : ℕ → Held) → ledger_after c L ≡ ledger_after c' L
like_ledger (load_like k r xs c bytes bytes') L = refl
like_ledger (turn_like w r ms ms') L = refl
like_ledger (join_like o d a b) L = refl
like_ledger (refresh_like r bytes bytes') L = refl
like_ledger (clear_like r) L = refl
like_ledger (release_like r out scratch) L = refl

-- nothing is reached where nothing is struck
abbrev Unstruck : {W : Type 0} → List (Event W) → Type 0
Unstruck [] = Unit {0}
Unstruck (e ∷ es) = ((r : ℕ) → e.struck r ≡ false) × Unstruck es

missed : {W : Type 0} (h : Held) (b : Bool) (R : Reach W) (w w' : List W) → b ≡ false → R ≡ unreached → struck_reach h b R w w' ≡ unreached
missed nothing b R w w' i u = u
missed (holds f l) true R w w' i u = absurd (true≢false i)
missed (holds f l) false R w w' i u = u

after_unreached : {W : Type 0} (c : Call) (R : ℕ → Reach W) → ((r : ℕ) → R r ≡ unreached) → (r : ℕ) → reach_after c R r ≡ unreached
after_unreached {W} (load k d xs c bytes) R h = frame1 (λ (r : ℕ) (y : Reach W). y ≡ unreached) d unreached R refl (λ r _. h r)
after_unreached (turn w d ms) R h = h
after_unreached {W} (join o d a b) R h = frame1 (λ (r : ℕ) (y : Reach W). y ≡ unreached) d (either (R a) (R b)) R (ap₂ either (h a) (h b)) (λ r _. h r)
after_unreached (refresh d bytes) R h = h
after_unreached {W} (clear d) R h = frame1 (λ (r : ℕ) (y : Reach W). y ≡ unreached) d unreached R refl (λ r _. h r)
after_unreached (release d out scratch) R h = h

found_unreached : {W : Type 0} (e : Event W) (es : List (Event W)) → ((r : ℕ) → e.struck r ≡ false) → ((r : ℕ) → reach es r ≡ unreached) → (r : ℕ) → reach_at e es r ≡ unreached
found_unreached e es calm h r = missed (ledger es r) (e.struck r) (reach es r) (part e.left r) (part e.found r) (calm r) (h r)

all_unreached : {W : Type 0} (es : List (Event W)) → Unstruck es → (r : ℕ) → reach es r ≡ unreached
all_unreached [] u r = refl
all_unreached {W} (e ∷ es) u r = go (all_unreached es u.1) (is_refused e.answer)
  where
    go : ((r : ℕ) → reach es r ≡ unreached) → (b : Bool) → (cond b (reach_at e es) (reach_after e.call (reach_at e es))) r ≡ unreached
    go ih true = found_unreached e es u.0 ih r
    go ih false = after_unreached e.call (reach_at e es) (found_unreached e es u.0 ih) r

abbrev spoken : Option Refusal → Answer → Answer
spoken none a = a
spoken (some x) a = refused (number_of x) (place_of x)

abbrev settled : {X : Type 0} → Option Refusal → X → X → X
settled none x y = x
settled (some r) x y = y

unhidden : (c : Call) (o : Option Refusal) (a : Answer) → blames c (spoken o a) ≡ false → hides c o ≡ false
unhidden c none a h = refl
unhidden c (some x) a h = h

abbrev stage_of : Form → Held → List ℕ
stage_of F nothing = []
stage_of F (holds f l) = in_form coefficients F f

module _ {W : Type 0} (G : Guarded W) (Y : Lawful G) (A : Algebra G) (T : Type 0) (L : ℕ → Held) (R : ℕ → Reach W) (s : State) (lent : ℕ) (ws : ℕ → List W)
    (inv : Inv G T L R s.masks s.registers ws) (un : (r : ℕ) → R r ≡ unreached) where
  clean : (r : ℕ) → occupied (s.registers r).form ≡ true → (every G.element (ws r) ≡ true) × (residues G (ws r) ≡ owed G s.masks (s.registers r))
  clean r full = kept_of G Y A T r s.masks (L r) (R r) (s.registers r) (ws r) (un r) full (inv.at r)

  sound_words : (r : ℕ) → occupied (s.registers r).form ≡ true → flaw G.element (ws r) ≡ none
  sound_words r full = every_flaw G.element (ws r) (clean r full).0

  no_lapse : (c : Call) → ruling G.p G.t s.registers lent c ≡ none → first (word_rules G s.registers ws c) ≡ none
  no_lapse (load k r xs c bytes) h = refl
  no_lapse (turn w r ms) h = rw (sound_words r (turn_passed G.p G.t s.registers lent w r ms h).full)
  no_lapse (join o d a b) h =
      let n = join_passed G.p G.t s.registers lent o d a b h in
      rw (sound_words a n.full_a) (rw (sound_words b n.full_b))
  no_lapse (refresh r bytes) h = rw (sound_words r (refresh_passed G.p G.t s.registers lent r bytes h).full)
  no_lapse (clear r) h = refl
  no_lapse (release r out scratch) h =
      let n = release_passed G.p G.t s.registers lent r out scratch h in
      rw (sound_words r n.full)
      (rw (ap (λ (z : List ℕ). differ z (due G (s.registers r))) ((clean r n.full).1 ∙ owed_due G Y A s.masks (s.registers r) n.finished) ∙ differ_refl (due G (s.registers r))))

  clear_verdict : (c : Call) → verdict G s lent ws c ≡ or (ruling G.p G.t s.registers lent c) none
  unfolding verdict
  clear_verdict c = go (ruling G.p G.t s.registers lent c) refl
    where
      go : (o : Option Refusal) → ruling G.p G.t s.registers lent c ≡ o → or o (first (word_rules G s.registers ws c)) ≡ or o none
      go none h = no_lapse c h
      go (some x) h = refl

  served_answer : (c : Call) (answer : Answer) (s' : State) (ws' : ℕ → List W) → Serves G s lent ws c answer s' ws' →
      (answer ≡ spoken (ruling G.p G.t s.registers lent c) (reply G s ws c))
      × (s'.registers ≡ settled (ruling G.p G.t s.registers lent c) (registers_after G.p s.registers c) s.registers)
  served_answer c answer s' ws' (accepts v ans acc) = go (ruling G.p G.t s.registers lent c) (sym (clear_verdict c) ∙ v)
    where
      go : (o : Option Refusal) → or o none ≡ none → (answer ≡ spoken o (reply G s ws c)) × (s'.registers ≡ settled o (registers_after G.p s.registers c) s.registers)
      go none h = (ans, acc.registers)
      go (some x) h = absurd (no_some h)
  served_answer c answer s' ws' (refuses why v ans ss vs) = go (ruling G.p G.t s.registers lent c) (sym (clear_verdict c) ∙ v)
    where
      go : (o : Option Refusal) → or o none ≡ some why → (answer ≡ spoken o (reply G s ws c)) × (s'.registers ≡ settled o (registers_after G.p s.registers c) s.registers)
      go none h = absurd (no_some (sym h))
      go (some x) h = (ans ∙ ap (λ (y : Refusal). refused (number_of y) (place_of y)) (let k : why ≡ x = cc in k), ap (λ (z : State). z.registers) ss)

  plain_of : (r : ℕ) (h : Held) (Q : Reach W) → Q ≡ unreached → whole (s.registers r).form ≡ true → Local G T r s.masks h Q (s.registers r) (ws r) →
      plains G (ws r) ≡ stage_of (s.registers r).form h
  plain_of r nothing Q u f k = absurd (false≢true (sym (ap whole k.common.layered) ∙ f))
  plain_of r (holds g l) unreached u f k = k.bond.plain ∙ A.on_coefficients.expected_whole (s.registers r).form s.masks g f k.common.layered.2
  plain_of r (holds g l) (reached v v') u f k = absurd (no_hit u)

  released : (r out scratch : ℕ) → ruling G.p G.t s.registers lent (release r out scratch) ≡ none → plains G (ws r) ≡ stage_of (s.registers r).form (L r)
  released r out scratch h = plain_of r (L r) (R r) (un r) (release_passed G.p G.t s.registers lent r out scratch h).finished (inv.at r)

-- one call each
module _ {V W : Type 0} (G : Guarded V) (H : Guarded W) (Y : Lawful G) (Z : Lawful H) (A : Algebra G) (B : Algebra H) (one : G.p ≡ H.p)
    (T U : Type 0) (L K : ℕ → Held) (R : ℕ → Reach V) (Q : ℕ → Reach W) (s z : State) (lent : ℕ) (vs : ℕ → List V) (ws : ℕ → List W)
    (inv : Inv G T L R s.masks s.registers vs) (jnv : Inv H U K Q z.masks z.registers ws)
    (un : (r : ℕ) → R r ≡ unreached) (vn : (r : ℕ) → Q r ≡ unreached) (regs : s.registers ≡ z.registers) (held : L ≡ K) where
  replies : {c c' : Call} → Like c c' → ruling G.p G.t s.registers lent c ≡ none → ruling H.p H.t z.registers lent c' ≡ none → reply G s vs c ≡ reply H z ws c'
  replies (load_like k r xs c bytes bytes') h g = refl
  replies (turn_like w r ms ms') h g = refl
  replies (join_like o d a b) h g = refl
  replies (refresh_like r bytes bytes') h g = refl
  replies (clear_like r) h g = refl
  replies (release_like r out scratch) h g =
      ap₂ given
      (released G Y A T L R s lent vs inv un r out scratch h ∙ ap₂ (λ (S : ℕ → Register) (M : ℕ → Held). stage_of (S r).form (M r)) regs held ∙ sym (released H Z B U K Q z lent ws jnv vn r out scratch g))
      (ap (λ (S : ℕ → Register). (S r).form) regs)

  both : {c c' : Call} → Like c c' → (x y : Answer) (s' z' : State) (vs' : ℕ → List V) (ws' : ℕ → List W) → blames c x ≡ false → blames c' y ≡ false →
      Serves G s lent vs c x s' vs' → Serves H z lent ws c' y z' ws' → (x ≡ y) × (s'.registers ≡ z'.registers)
  both {c} {c'} l x y s' z' vs' ws' bx by sx sy =
      let a = served_answer G Y A T L R s lent vs inv un c x s' vs' sx in
      let b = served_answer H Z B U K Q z lent ws jnv vn c' y z' ws' sy in
      let i : ruling G.p G.t s.registers lent c ≡ ruling H.p G.t z.registers lent c = ap₂ (λ (p : ℕ) (S : ℕ → Register). ruling p G.t S lent c) one regs in
      let hx = unhidden c (ruling G.p G.t s.registers lent c) (reply G s vs c) (sym (ap (blames c) a.0) ∙ bx) in
      let hy = unhidden c' (ruling H.p H.t z.registers lent c') (reply H z ws c') (sym (ap (blames c') b.0) ∙ by) in
      let j : ruling G.p G.t s.registers lent c ≡ ruling H.p H.t z.registers lent c' = i ∙ like_ruling l H.p G.t H.t z.registers lent (sym (ap (hides c) i) ∙ hx) hy in
      let k : registers_after G.p s.registers c ≡ registers_after H.p z.registers c' =
      ap₂ (λ (p : ℕ) (S : ℕ → Register). registers_after p S c) one regs ∙ like_registers l H.p z.registers in (
        a.0 ∙ go (ruling G.p G.t s.registers lent c) (ruling H.p H.t z.registers lent c') refl refl j ∙ sym b.0,
        a.1 ∙ same_settled (ruling G.p G.t s.registers lent c) (ruling H.p H.t z.registers lent c') j k ∙ sym b.1,
      )
    where
      go : (o o' : Option Refusal) → ruling G.p G.t s.registers lent c ≡ o → ruling H.p H.t z.registers lent c' ≡ o' → o ≡ o' → spoken o (reply G s vs c) ≡ spoken o' (reply H z ws c')
      go none none h g e = replies l h g
      go none (some u) h g e = absurd (no_some (sym e))
      go (some u) none h g e = absurd (no_some e)
      go (some u) (some v) h g e = ap (λ (y : Refusal). refused (number_of y) (place_of y)) (let k : u ≡ v = cc in k)

      same_settled : (o o' : Option Refusal) → o ≡ o' → registers_after G.p s.registers c ≡ registers_after H.p z.registers c' →
          settled o (registers_after G.p s.registers c) s.registers ≡ settled o' (registers_after H.p z.registers c') z.registers
      same_settled none none e k = k
      same_settled none (some u) e k = absurd (no_some (sym e))
      same_settled (some u) none e k = absurd (no_some e)
      same_settled (some u) (some v) e k = regs

calm_left : {V W : Type 0} {ds : List (Event V)} {es : List (Event W)} → Twins ds es → Unstruck ds
calm_left start = tt
calm_left (also t c c' n l) = (c.unstruck, calm_left t)

calm_right : {V W : Type 0} {ds : List (Event V)} {es : List (Event W)} → Twins ds es → Unstruck es
calm_right start = tt
calm_right (also t c c' n l) = (c'.unstruck, calm_right t)

module _ {V W : Type 0} (G : Guarded V) (H : Guarded W) (Y : Lawful G) (Z : Lawful H) (A : Algebra G) (B : Algebra H) (one : G.p ≡ H.p) where
  pub record Same (ds : List (Event V)) (es : List (Event W)) (s z : State) : Type 0 where
    pub said : answers ds ≡ answers es
    pub regs : s.registers ≡ z.registers
    pub held : ledger ds ≡ ledger es

  pub twins : {ds : List (Event V)} {es : List (Event W)} {s z : State} {vs : List V} {ws : List W} → Twins ds es → History G ds s vs → History H es z ws → Same ds es s z
  twins start (opens vs sizes) (opens ws sizes') = record { said = refl; regs = refl; held = refl }
  twins (also {ds = ds} {es = es} t cd ce lent l) (goes {s = s} {words = vs} h d left sizes calm s' vs' served) (goes {s = z} {words = ws} g e left' sizes' calm' z' ws' served') =
      let ih = twins t h g in
      let n =
      both G H Y Z A B one (Single (d ∷ ds)) (Single (e ∷ es)) (ledger ds) (ledger es) (reach_at d ds) (reach_at e es) s z d.lent (part d.found) (part e.found)
      (strike_keeps G Y A ds s vs d left sizes calm (history_keeps G Y A h)) (strike_keeps H Z B es z ws e left' sizes' calm' (history_keeps H Z B g))
      (found_unreached d ds cd.unstruck (all_unreached ds (calm_left t))) (found_unreached e es ce.unstruck (all_unreached es (calm_right t)))
      ih.regs ih.held l d.answer e.answer s' z' (part vs') (part ws') cd.unblamed ce.unblamed served
      (subst (λ (n : ℕ). Serves H z n (part e.found) e.call e.answer z' (part ws')) (sym lent) served') in
      record {
        said = ap₂ (λ (x : Answer) (xs : List Answer). x ∷ xs) n.0 ih.said;
        regs = n.1;
        held =
            ap₂ (λ (x : Answer) (M : ℕ → Held). cond (is_refused x) M (ledger_after d.call M)) n.0 ih.held
            ∙ ap (λ (M : ℕ → Held). cond (is_refused e.answer) (ledger es) M) (like_ledger l (ledger es));
      }

  pub alike_stands : Alike G H
  alike_stands ds es s z vs ws h g t = (twins t h g).said
