-- What a call that was not refused has passed.
use Rattle.std.proofs.Common.{◌≡◌, ℕ, zero, suc, pred, ◌<◌, true, List, length, sym, refl, subst, arith}
use mathlib.Core.Option.{Option, none, some}
use Rattle.std.proofs.lemmas.Bool.{eqb-true, ltb-true}
use Rattle.rings.specs.declared.refusal.Refusal.{Refusal}
use Rattle.rings.specs.Refusals.{first, Passes, flaw, below}
use Rattle.rings.proofs.Flaws.{all_low}
use Rattle.guarded.specs.Model.{Guarded, Lawful}
use Rattle.histories.specs.declared.register.Form.{Form}
use Rattle.histories.specs.declared.register.Form.TheVariants.{Empty, Natural, Transformed, Rising, Falling}
use Rattle.histories.specs.declared.register.Register.{Register}
use Rattle.histories.specs.Operations.{Base, neg, Good, witness, transform_of}
use Rattle.histories.specs.Forms.{in_form, whole}
use Rattle.histories.specs.Calls.{State, Call, load, join, refresh, release, joins, rules, word_rules, checks, Kind, Operation, plus, minus, times}
use Rattle.histories.specs.Serves.{or}
use Rattle.histories.proofs.Basics.{no_some, passes}
use Rattle.algebra.proofs.Lists.{listed_polynomial}
use Rattle.workspace.specs.Verdicts.{judgement}

-- neither part of a verdict complains
pub both : (o p : Option Refusal) → none ≡ or o p → (o ≡ none) × (p ≡ none)
both none p h = (refl, sym h)
both (some e) p h = absurd (no_some (sym h))

-- a verdict of arguments and records alone
pub or_none : (o p : Option Refusal) → o ≡ p → o ≡ or p none
or_none o none h = h
or_none o (some e) h = h

-- a refusal for the arguments or the records is the verdict, whatever the words are
pub or_some : (e : Refusal) (o p : Option Refusal) → some e ≡ o → some e ≡ or o p
or_some e none p h = absurd (no_some h)
or_some e (some f) p h = h

-- the arguments and the records of an accepted call have passed
pub ruled : {W : Type 0} (G : Guarded W) (s : State) (lent : ℕ) (words : ℕ → List W) (c : Call) → none ≡ judgement G s lent words c →
    Passes (rules G.p G.t s.registers lent c)
ruled G s lent words c h = passes (rules G.p G.t s.registers lent c) (both (first (rules G.p G.t s.registers lent c)) (first (word_rules G s.registers words c)) h).0

-- and its words
pub sound : {W : Type 0} (G : Guarded W) (s : State) (lent : ℕ) (words : ℕ → List W) (c : Call) → none ≡ judgement G s lent words c →
    Passes (word_rules G s.registers words c)
sound G s lent words c h =
    passes (word_rules G s.registers words c) (both (first (rules G.p G.t s.registers lent c)) (first (word_rules G s.registers words c)) h).1

-- every call is lent 2,048 words
pub lent_all : (p t : ℕ) (S : ℕ → Register) (lent : ℕ) (c : Call) → Passes (rules p t S lent c) → lent ≡ 2048
lent_all p t S lent c q = eqb-true lent 2048 q.0

-- what a load has passed
module _ (p t : ℕ) (S : ℕ → Register) (lent : ℕ) (kind : Kind) (r : ℕ) (xs : List ℕ) (c : ℕ) (bytes : List ℕ)
    (q : Passes (rules p t S lent (load kind r xs c bytes))) where
  pub load_sizes : (length xs ≡ 256) × (length bytes ≡ 256)
  load_sizes = (eqb-true (length xs) 256 q.1.0, eqb-true (length bytes) 256 q.1.1.0)

  pub load_range : flaw (below 3329) xs ≡ none
  load_range = q.1.1.1.1.0

  pub load_digits : flaw (below t) bytes ≡ none
  load_digits = q.1.1.1.1.1.1.0

suits_whole : (o : Operation) (F : Form) → joins o F ≡ true → whole F ≡ true
suits_whole plus F h = h
suits_whole minus F h = h
suits_whole times Empty h = h
suits_whole times Natural h = refl
suits_whole times Transformed h = refl
suits_whole times (Rising s) h = h
suits_whole times (Falling s) h = h

-- what a join has passed: the first operand is natural or transformed
module _ (p t : ℕ) (S : ℕ → Register) (lent : ℕ) (o : Operation) (d a b : ℕ) (q : Passes (rules p t S lent (join o d a b))) where
  pub join_whole : whole (S a).form ≡ true
  join_whole = suits_whole o (S a).form q.1.1.1.1.1.1.1.0

-- a refresh
module _ (p t : ℕ) (S : ℕ → Register) (lent r : ℕ) (bytes : List ℕ) (q : Passes (rules p t S lent (refresh r bytes))) where
  pub refresh_size : length bytes ≡ 256
  refresh_size = eqb-true (length bytes) 256 q.1.0

  pub refresh_known : r < 8
  refresh_known = ltb-true r 8 q.1.1.0

  pub refresh_digits : flaw (below t) bytes ≡ none
  refresh_digits = q.1.1.1.0

-- a release
module _ (p t : ℕ) (S : ℕ → Register) (lent r out scratch : ℕ) (q : Passes (rules p t S lent (release r out scratch))) where
  pub release_out : out ≡ 256
  release_out = eqb-true out 256 q.1.0

  pub release_scratch : scratch ≡ 256
  release_scratch = eqb-true scratch 256 q.1.1.0

  pub release_known : r < 8
  release_known = ltb-true r 8 q.1.1.1.0

-- what a register is to hold modulo p is 256 numbers below p
due_good : (B : Base) (F : Form) (a b : ℕ) → Good B (in_form B F (witness B a b))
unfolding witness transform_of
due_good B Empty a b = listed_polynomial (neg B) _
due_good B Natural a b = listed_polynomial (neg B) _
due_good B Transformed a b = listed_polynomial (neg B) _
due_good B (Rising s) a b = listed_polynomial (neg B) _
due_good B (Falling s) a b = listed_polynomial (neg B) _

within : (p x : ℕ) → 0 < p → x < suc (pred p) → x < p
within zero x h l = absurd (omega arith)
within (suc p) x h l = l

pub due_low : {W : Type 0} (G : Guarded W) → Lawful G → (F : Form) (a b : ℕ) (cs : List ℕ) → cs ≡ in_form (checks G) F (witness (checks G) a b) → flaw (below G.p) cs ≡ none
due_low G law F a b cs e =
    all_low G.p cs (λ k l.
    let P : Good (checks G) cs = subst (λ (xs : List ℕ). Good (checks G) xs) (sym e) (due_good (checks G) F a b) in
    let size = P.size in
    within G.p _ (omega (arith, law.above)) (P.small k (omega arith)))
