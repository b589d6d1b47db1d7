-- Why a call is refused, as the code finds it: the same as histories' verdict, open to the search.
use Rattle.std.specs.Prelude.{ℕ, List}
use Rattle.std.proofs.Math.Option.{Option}
use Rattle.rings.specs.declared.refusal.Refusal.{Refusal}
use Rattle.rings.specs.Refusals.{first}
use Rattle.guarded.specs.Model.{Guarded}
use Rattle.histories.specs.Calls.{State, Call, rules, word_rules}
use Rattle.histories.specs.Serves.{or}

abbrev pub judgement : {W : Type 0} → Guarded W → State → (lent : ℕ) → (ℕ → List W) → Call → Option Refusal
judgement G s lent words c = or (first (rules G.p G.t s.registers lent c)) (first (word_rules G s.registers words c))
