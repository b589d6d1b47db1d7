-- What an accepted call has passed.
use Rattle.std.proofs.Common.{◌≡◌, ℕ, ◌<◌, ◌≤◌, true, ltb, List, length}
use mathlib.Core.Option.{none}
use Rattle.std.proofs.lemmas.Bool.{ltb-true, leb-true, eqb-true, and_parts}
use Rattle.algebra.specs.declared.Direction.{Direction}
use Rattle.rings.specs.Refusals.{Passes}
use Rattle.rings.proofs.Flaws.{low_at}
use Rattle.histories.specs.declared.register.Register.{Register}
use Rattle.histories.specs.Operations.{Good}
use Rattle.histories.specs.Forms.{occupied, whole, same_form, turns}
use Rattle.histories.specs.Calls.{coefficients, Kind, load, turn, join, refresh, release, Operation, plus, minus, times, joins, eight, free, factors, rules, ruling}
use Rattle.histories.proofs.Basics.{every, passes, flaw_none}

module _ (p t : ℕ) (S : ℕ → Register) (lent : ℕ) where
  pub record LoadPassed (r : ℕ) (xs : List ℕ) (c : ℕ) : Type 0 where
    pub inside : r < 8
    pub good : Good coefficients xs
    pub below : c < p

  pub load_passed : (kind : Kind) (r : ℕ) (xs : List ℕ) (c : ℕ) (bytes : List ℕ) → ruling p t S lent (load kind r xs c bytes) ≡ none → LoadPassed r xs c
  unfolding ruling
  load_passed kind r xs c bytes h =
      let n = (passes (rules p t S lent (load kind r xs c bytes)) h).1 in
      let size = eqb-true (length xs) 256 n.0 in
      record {
        inside = ltb-true r 8 n.1.1.0;
        good = record { size = size; small = λ j l. low_at 3329 xs n.1.1.1.0 j (rw size l) };
        below = ltb-true c p (and_parts (ltb 0 c) (ltb c p) n.1.1.1.1.0).1;
      }

  pub record TurnPassed (way : Direction) (r : ℕ) : Type 0 where
    pub inside : r < 8
    pub full : occupied (S r).form ≡ true
    pub turning : turns way (S r).form ≡ true
    pub alone : every (free S r) eight ≡ true

  pub turn_passed : (way : Direction) (r : ℕ) (ms : List ℕ) → ruling p t S lent (turn way r ms) ≡ none → TurnPassed way r
  unfolding ruling
  turn_passed way r ms h =
      let n = (passes (rules p t S lent (turn way r ms)) h).1 in
      record { inside = ltb-true r 8 n.0; full = n.1.0; turning = n.1.1.0; alone = flaw_none (free S r) eight n.1.1.1.0 }

  pub record JoinPassed (o : Operation) (d a b : ℕ) : Type 0 where
    pub inside_d : d < 8
    pub inside_a : a < 8
    pub inside_b : b < 8
    pub full_a : occupied (S a).form ≡ true
    pub full_b : occupied (S b).form ≡ true
    pub joining : joins o (S a).form ≡ true
    pub same : same_form (S a).form (S b).form ≡ true
    pub factored : Passes (factors S o a b)

  pub join_passed : (o : Operation) (d a b : ℕ) → ruling p t S lent (join o d a b) ≡ none → JoinPassed o d a b
  unfolding ruling
  join_passed o d a b h =
      let n = (passes (rules p t S lent (join o d a b)) h).1 in
      let m = n.1.1.1 in
      record {
        inside_d = ltb-true d 8 n.0;
        inside_a = ltb-true a 8 n.1.0;
        inside_b = ltb-true b 8 n.1.1.0;
        full_a = m.0;
        full_b = m.1.0;
        joining = m.1.1.1.0;
        same = m.1.1.1.1.0;
        factored = m.1.1.1.1.1;
      }

  pub record OnePassed (r : ℕ) : Type 0 where
    pub inside : r < 8
    pub full : occupied (S r).form ≡ true

  pub refresh_passed : (r : ℕ) (bytes : List ℕ) → ruling p t S lent (refresh r bytes) ≡ none → OnePassed r
  unfolding ruling
  refresh_passed r bytes h =
      let n = (passes (rules p t S lent (refresh r bytes)) h).1 in
      record { inside = ltb-true r 8 n.1.0; full = n.1.1.1.0 }

  pub record ReleasePassed (r : ℕ) : Type 0 where
    pub inside : r < 8
    pub full : occupied (S r).form ≡ true
    pub finished : whole (S r).form ≡ true

  pub release_passed : (r out scratch : ℕ) → ruling p t S lent (release r out scratch) ≡ none → ReleasePassed r
  unfolding ruling
  release_passed r out scratch h =
      let n = (passes (rules p t S lent (release r out scratch)) h).1.1.1 in
      record { inside = ltb-true r 8 n.0; full = n.1.0; finished = n.1.1.0 }

-- the factors of a product
abbrev pub Factors : Operation → Register → Register → Type 0
Factors plus x y = Unit {0}
Factors minus x y = Unit {0}
Factors times x y = (x.level ≤ 1) × (y.level ≤ 1) × (0 < x.a) × (0 < y.a)

pub factors_passed : (S : ℕ → Register) (o : Operation) (a b : ℕ) → Passes (factors S o a b) → Factors o (S a) (S b)
factors_passed S plus a b n = tt
factors_passed S minus a b n = tt
factors_passed S times a b n = (leb-true (S a).level 1 n.0, leb-true (S b).level 1 n.1.0, ltb-true 0 (S a).a n.1.1.0, ltb-true 0 (S b).a n.1.1.1.0)
