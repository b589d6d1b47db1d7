-- The message that 256 coefficients stand for.
use Rattle.std.specs.Prelude.{ℕ, ◌+◌, ◌*◌, cond, ◌&&◌, List, nat_le}
use Rattle.algebra.specs.Polynomials.{coefficient}

-- a coefficient stands for the bit 1 where it is nearer to 3329 / 2 than to 0
abbrev pub bit_of : ℕ → ℕ
bit_of x = cond (nat_le 833 x && nat_le x 2496) 1 0

-- eight coefficients stand for a byte, its lowest bit first
abbrev pub byte_at : List ℕ → ℕ → ℕ
byte_at w k =
    bit_of (coefficient w k)
    + 2 * bit_of (coefficient w (k + 1))
    + 4 * bit_of (coefficient w (k + 2))
    + 8 * bit_of (coefficient w (k + 3))
    + 16 * bit_of (coefficient w (k + 4))
    + 32 * bit_of (coefficient w (k + 5))
    + 64 * bit_of (coefficient w (k + 6))
    + 128 * bit_of (coefficient w (k + 7))
