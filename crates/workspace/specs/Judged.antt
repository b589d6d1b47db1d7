-- What the theorem over histories says of one call, whatever led to it.
use Rattle.std.specs.Prelude.{◌≡◌, ℕ, Bool, false, List, length}
use Rattle.guarded.specs.Model.{Guarded}
use Rattle.histories.specs.Calls.{State, part, Call}
use Rattle.histories.specs.Serves.{Answer}
use Rattle.histories.specs.Ledger.{Event, History}
use Rattle.histories.specs.Theorem.{Undisturbed, Detected}

-- the call on the 2,048 words `found`, where the call before left `left`
abbrev pub event : {W : Type 0} → (left found : List W) → (struck : ℕ → Bool) → Call → Answer → Event W
event left found struck c answer = record { left = left; found = found; struck = struck; lent = length found; call = c; answer = answer }

-- for every history es that leads to the state s with the words `left`, and any strikes between: an undisturbed register is released as
-- the ledger reads it, a disturbed one is detected
pub record Judged {W : Type 0} (G : Guarded W) (s : State) (found : List W) (c : Call) (answer : Answer) : Type 0 where
  pub undisturbed : (es : List (Event W)) (left : List W) (struck : ℕ → Bool) → History G es s left → length found ≡ 2048 →
      ((r : ℕ) → struck r ≡ false → part found r ≡ part left r) → Undisturbed (event left found struck c answer) es
  pub detected : (es : List (Event W)) (left : List W) (struck : ℕ → Bool) → History G es s left → length found ≡ 2048 →
      ((r : ℕ) → struck r ≡ false → part found r ≡ part left r) → Detected G (event left found struck c answer) es
