-- The ranks by their numbers.
use Rattle.std.specs.Prelude.{◌≡◌, ℕ, ◌≤◌, Result, MatchResult}
use Rattle.decryption.specs.declared.rank.Rank.{Rank}
use Rattle.decryption.specs.declared.rank.parsing.UnknownRank.{UnknownRank}

-- the rank of this number, from 2 to 4, and no other number has one
abbrev pub Ranks : ℕ → Result Rank UnknownRank → Type 0
Ranks n answer = MatchResult answer (λ rank. (rank.number ≡ n) × (2 ≤ n)) (λ _. 2 ≤ n → n ≤ 4 → ⊥)
