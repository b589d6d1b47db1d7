-- The plain ring: its elements are the numbers below the modulus, and each means itself.
use Rattle.std.specs.Prelude.{ℕ, Bool, nat_lt}
use Rattle.rings.specs.declared.plain.Plain.{Plain}
use Rattle.rings.specs.Moduli.{plain_root}

abbrev pub plain_modulus : Plain → ℕ
plain_modulus s = s.modulus

abbrev pub plain_ring_root : Plain → ℕ
plain_ring_root s = plain_root s.modulus

abbrev pub plain_element : Plain → ℕ → Bool
plain_element s w = nat_lt w s.modulus

abbrev pub plain_meaning : Plain → ℕ → ℕ
plain_meaning s w = w
