-- Numbers and parts of a sheet's bytes.
use Rattle.std.specs.Prelude.{◌≡◌, ℕ, ◌+◌, ◌*◌, ◌<◌, List, length, take, drop, slice_index}

-- n bytes of the sheet, from offset k on
abbrev pub part : List ℕ → ℕ → ℕ → List ℕ
part sheet k n = take n (drop k sheet)

-- these are n bytes of the sheet, from offset k on, and all of them are there
pub record Part (sheet : List ℕ) (k n : ℕ) (bytes : List ℕ) : Type 0 where
  pub size : length bytes ≡ n
  pub same : bytes ≡ part sheet k n

-- the numbers of two and of four bytes at offset k, the highest byte first
abbrev pub two_at : List ℕ → ℕ → ℕ
two_at sheet k = 256 * slice_index sheet k + slice_index sheet (k + 1)

abbrev pub four_at : List ℕ → ℕ → ℕ
four_at sheet k = 65536 * two_at sheet k + two_at sheet (k + 2)

-- the 256 numbers of 512 bytes
pub record Numbers (bytes out : List ℕ) : Type 0 where
  pub size : length out ≡ 256
  pub each : (k : ℕ) → k < 256 → slice_index out k ≡ two_at bytes (2 * k)
