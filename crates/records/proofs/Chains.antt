-- What a check that complains of nothing has passed.
use Rattle.std.proofs.Common.{◌≡◌, ℕ, Bool, true, false, cond, sym, refl}
use mathlib.Core.Option.{Option, none, some}
use Rattle.rings.specs.Refusals.{or_else}
use Rattle.histories.proofs.Basics.{no_some}

pub passed : {A : Type 0} (b : Bool) (x : A) → none ≡ cond b none (some x) → b ≡ true
passed true x h = refl
passed false x h = absurd (no_some (sym h))

pub unflawed : {A : Type 0} (o : Option ℕ) (f : ℕ → A) → none ≡ or_else o f none → o ≡ none
unflawed none f h = refl
unflawed (some k) f h = absurd (no_some (sym h))
