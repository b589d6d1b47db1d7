-- The pair ring: pairs of a remainder by 3329 and one by p, each of which means the number that leaves them.
use Rattle.std.specs.Prelude.{ℕ, ◌*◌, Bool, ◌&&◌, nat_lt}
use Rattle.rings.specs.PlainRing.{plain_modulus}
use Rattle.guarded.specs.declared.pair.Pair.{Pair}
use Rattle.guarded.specs.declared.pair.Residues.{Residues}
use Rattle.guarded.specs.Moduli.{lifted, joint_root}

abbrev pub pair_check : Pair → ℕ
pair_check s = plain_modulus s.checks

abbrev pub pair_redundancy : Pair → ℕ
pair_redundancy s = 1

abbrev pub pair_modulus : Pair → ℕ
pair_modulus s = 3329 * pair_check s

abbrev pub pair_root : Pair → ℕ
pair_root s = joint_root (pair_check s)

abbrev pub pair_element : Pair → Residues → Bool
pair_element s w = nat_lt w.coefficient 3329 && nat_lt w.check (pair_check s)

abbrev pub pair_meaning : Pair → Residues → ℕ
pair_meaning s w = lifted (pair_check s) w.coefficient w.check

abbrev pub pair_number : Pair → Residues → ℕ
pair_number s w = 0
