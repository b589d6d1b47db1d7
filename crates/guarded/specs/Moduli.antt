-- The check moduli that approval knows, and what goes with each.
use Rattle.std.specs.Prelude.{ℕ, ◌%◌, Bool, cond, ◌&&◌, ◌||◌, ◌==◌, nat_le}
use Rattle.algebra.specs.Remainders.{joined}
use Rattle.rings.specs.Moduli.{plain_root}

abbrev pub is_check : ℕ → Bool
is_check p = p == 7681 || p == 12289

-- the redundancy numbers whose words fit 32 bits: odd, up to 167 or 103
abbrev pub most_redundancy : (p : ℕ) → ℕ
most_redundancy p = cond (p == 7681) 167 103

abbrev pub is_redundancy : (p t : ℕ) → Bool
is_redundancy p t = t % 2 == 1 && nat_le t (most_redundancy p)

-- the inverse of 3329 modulo p
abbrev pub check_inverse : (p : ℕ) → ℕ
check_inverse p = cond (p == 7681) 4520 8077

-- the number below 3329 * p that leaves s by 3329 and c by p
abbrev pub lifted : (p s c : ℕ) → ℕ
lifted p = joined 3329 p (check_inverse p)

-- the root modulo 3329 * p, lifted from the roots modulo 3329 and modulo p
abbrev pub joint_root : (p : ℕ) → ℕ
joint_root p = lifted p 17 (plain_root p)

-- the inverse of 128 modulo 3329 * p, lifted likewise
abbrev pub check_scale : (p : ℕ) → ℕ
check_scale p = cond (p == 7681) 7621 12193
