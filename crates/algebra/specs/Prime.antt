-- Prime numbers.
use Rattle.std.specs.Prelude.{◌≡◌, ℕ, ◌*◌, ◌%◌, ◌⊎◌}

-- p divides a product only where it divides a factor
abbrev pub Prime : ℕ → Type 0
Prime p = (a b : ℕ) → (a * b) % p ≡ 0 → (a % p ≡ 0) ⊎ (b % p ≡ 0)
