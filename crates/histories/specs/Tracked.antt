-- A workspace that nothing has struck, by what its ledger holds.
use Rattle.std.specs.Prelude.{◌≡◌, ℕ, List}
use Rattle.guarded.specs.Model.{Guarded}
use Rattle.histories.specs.Calls.{State}
use Rattle.histories.specs.Ledger.{Event, History, Held, holds, ledger, reach, unreached}

-- some history without a strike has led to the state s with these words, and its ledger is L
pub record Tracked {W : Type 0} (G : Guarded W) (s : State) (words : List W) (L : ℕ → Held) : Type 0 where
  pub events : List (Event W)
  pub history : History G events s words
  pub calm : (r : ℕ) → reach events r ≡ unreached
  pub holding : ledger events ≡ L

-- the same, of one register: it holds f after so many layers
pub record Keeps {W : Type 0} (G : Guarded W) (s : State) (words : List W) (r : ℕ) (f : List ℕ) (layers : ℕ) : Type 0 where
  pub all : ℕ → Held
  pub tracked : Tracked G s words all
  pub here : all r ≡ holds f layers
