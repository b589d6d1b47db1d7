-- The records of the registers, and what always holds of them.
use Rattle.std.specs.Prelude.{◌≡◌, ℕ, Bool, true, ◌&&◌, List, nat_le, slice_index_or}
use Rattle.algebra.specs.Masks.{is_list_length}
use Rattle.histories.specs.declared.register.Form.{Form}
use Rattle.histories.specs.declared.register.Form.TheVariants.{Empty, Natural, Transformed, Rising, Falling}
use Rattle.histories.specs.declared.register.Register.{Register}
use Rattle.histories.specs.Forms.{in_work}
use Rattle.histories.specs.Calls.{empty_record}

-- the record of register r; a register that does not exist has the empty record
abbrev pub rows : List Register → ℕ → Register
rows rs r = slice_index_or rs r empty_record

-- in work, from 1 to 6 layers are done
abbrev pub proper : Form → Bool
proper Empty = true
proper Natural = true
proper Transformed = true
proper (Rising s) = nat_le 1 s && nat_le s 6
proper (Falling s) = nat_le 1 s && nat_le s 6

-- every form is proper
abbrev pub Proper : (ℕ → Register) → Type 0
Proper S = (r : ℕ) → proper (S r).form ≡ true

-- no register but r is in work
abbrev pub Alone : (ℕ → Register) → (r : ℕ) → Type 0
Alone S r = (k : ℕ) → in_work (S k).form ≡ true → k ≡ r

-- at most one register is in work
abbrev pub Single : (ℕ → Register) → Type 0
Single S = (r k : ℕ) → (in_work (S r).form && in_work (S k).form) ≡ true → k ≡ r

-- if some register is in work, the last layer took a list of this length
abbrev pub Listed : (ℕ → Register) → (count : ℕ) → Type 0
Listed S count = (r : ℕ) → in_work (S r).form ≡ true → is_list_length count ≡ true

-- what a table always keeps
pub record Kept (S : ℕ → Register) (count : ℕ) : Type 0 where
  pub proper : Proper S
  pub single : Single S
  pub listed : Listed S count
