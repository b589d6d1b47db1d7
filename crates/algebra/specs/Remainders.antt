-- A number by its remainders.
use Rattle.std.specs.Prelude.{ℕ, ◌+◌, ◌-◌, ◌*◌, ◌%◌}

-- the number below q * p that leaves s by q and c by p, where i is the inverse of q modulo p
abbrev pub joined : (q p i s c : ℕ) → ℕ
joined q p i s c = s + q * (((c + (p - s)) * i) % p)
