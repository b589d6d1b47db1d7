-- What an accepted layer may count on.
use Rattle.std.specs.Prelude.{◌≡◌, ℕ, suc, ◌-◌, ◌≤◌, true, List, length}
use Rattle.algebra.specs.declared.Direction.{Direction}
use Rattle.algebra.specs.Masks.{is_list_length, suits}
use Rattle.histories.specs.Forms.{in_work, done_of, form_after}
use Rattle.histories.specs.Calls.{State}
use Rattle.records.specs.declared.turn.Turn.{Turn}
use Rattle.records.specs.Rows.{proper, Alone}
use Rattle.records.specs.Tables.{carried}

-- the next layer of register r in this direction, the form that it leaves, and the masks under which it runs
pub record Turns (s : State) (way : Direction) (r : ℕ) (masks : List ℕ) (turn : Turn) : Type 0 where
  pub register_is : turn.register.number ≡ r
  pub layer_is : turn.layer.number ≡ suc (done_of (s.registers r).form)
  pub next_is : turn.next ≡ form_after way turn.layer.number
  pub outgoing : suits 7 turn.layer.number masks ≡ true
  pub incoming : suits 7 (turn.layer.number - 1) (carried turn.layer.number s.masks) ≡ true
  pub fine : proper turn.next ≡ true
  pub alone : Alone s.registers r
  pub few : length masks ≤ 128
  pub suited : in_work turn.next ≡ true → is_list_length (length masks) ≡ true
