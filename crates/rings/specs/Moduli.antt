-- The moduli that approval knows, with their roots: w ^ 128 is -1.
use Rattle.std.specs.Prelude.{ℕ, Bool, cond, ◌||◌, ◌==◌}

-- of the plain ring
abbrev pub is_plain : ℕ → Bool
is_plain m = m == 3329 || (m == 7681 || m == 12289)

abbrev pub plain_root : ℕ → ℕ
plain_root m = cond (m == 3329) 17 (cond (m == 7681) 3844 1260)
