-- What a table stands for, and its changes.
use Rattle.std.specs.Prelude.{ℕ, cond, List, [], ◌==◌}
use Rattle.histories.specs.declared.register.Form.{Form}
use Rattle.histories.specs.declared.register.Register.{Register}
use Rattle.histories.specs.Calls.{State}
use Rattle.histories.specs.Serves.{put}
use Rattle.records.specs.declared.table.Table.{Table}
use Rattle.records.specs.Rows.{rows}

-- what a table stands for
abbrev pub state : Table → State
state x = record { registers = rows x.records; masks = x.masks.items }

-- with the record of one register changed
abbrev pub with_register : (d : ℕ) → Register → State → State
with_register d x s = record { registers = put d x s.registers; masks = s.masks }

-- a record with another form
abbrev pub with_form : Form → Register → Register
with_form F x = record { form = F; level = x.level; a = x.a; b = x.b }

-- one layer done: register r has the form F, and the store has the layer's list
abbrev pub advanced : (r : ℕ) → Form → (list : List ℕ) → State → State
advanced r F list s = record { registers = put r (with_form F (s.registers r)) s.registers; masks = list }

-- the masks that a register carries before this layer: none before layer 1, else the list that the layer before took
abbrev pub carried : (layer : ℕ) → (stored : List ℕ) → List ℕ
carried layer stored = cond (layer == 1) [] stored
