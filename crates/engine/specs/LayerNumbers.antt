-- The layers by their numbers.
use Rattle.std.specs.Prelude.{◌≡◌, ℕ, ◌&&◌, false, Result, MatchResult, nat_le}
use Rattle.rings.specs.declared.refusal.Refusal.{Refusal}
use Rattle.rings.specs.declared.refusal.Refusal.TheVariants as refuse
use Rattle.engine.specs.declared.masked.Layer.{Layer}

-- the layer of this number, or its refusal, outside 1 to 7
abbrev pub Layers : ℕ → Result Layer Refusal → Type 0
Layers s answer = MatchResult answer (λ layer. layer.number ≡ s) (λ e. ((nat_le 1 s && nat_le s 7) ≡ false) × (e ≡ refuse.Layer))
