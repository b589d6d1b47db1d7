-- The scratch of a release.
use Rattle.std.specs.Prelude.{◌≡◌, ℕ, ◌<◌, List, length, ◌≢◌, slice_index}

abbrev pub Zeros : List ℕ → Type 0
Zeros xs = (k : ℕ) → k < length xs → slice_index xs k ≡ 0

-- a scratch of 256 numbers comes back all zero, one of another length as it was
pub record Cleaned (scratch scratch' : List ℕ) : Type 0 where
  pub zero : length scratch ≡ 256 → Zeros scratch'
  pub other : (length scratch ≢ 256) → scratch' ≡ scratch
