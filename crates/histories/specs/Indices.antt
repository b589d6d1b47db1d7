-- The registers by their numbers.
use Rattle.std.specs.Prelude.{◌≡◌, ℕ, ◌≤◌, Result, IfOk, MatchResult}
use Rattle.rings.specs.declared.refusal.Refusal.{Refusal}
use Rattle.rings.specs.declared.refusal.Refusal.TheVariants as refuse
use Rattle.histories.specs.declared.index.Index.{Index}

-- the register of this number, or its refusal, from 8 on
abbrev pub Indexes : ℕ → Result Index Refusal → Type 0
Indexes r answer = MatchResult answer (λ index. index.number ≡ r) (λ e. (8 ≤ r) × (e ≡ refuse.Register r))

-- what is accepted is the register of this number
abbrev pub Finds : ℕ → Result Index Refusal → Type 0
Finds r answer = IfOk answer (λ index. index.number ≡ r)
