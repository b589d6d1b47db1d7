-- A table of the powers of a root.
use Rattle.std.specs.Prelude.{◌≡◌, ℕ, ◌%◌, ◌^◌, ◌<◌, List, slice_index}

-- entry e is w ^ e modulo n, for each byte e
pub record Powers (w n : ℕ) (table : List ℕ) : Type 0 where
  pub at : (e : ℕ) → e < 256 → slice_index table e ≡ (w ^ e) % n
