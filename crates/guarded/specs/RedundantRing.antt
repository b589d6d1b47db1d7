-- The redundant ring: words below M = 3329 * p * t, each of which means its remainder by 3329 * p.
use Rattle.std.specs.Prelude.{ℕ, ◌*◌, ◌/◌, ◌%◌, Bool, nat_lt}
use Rattle.guarded.specs.declared.redundant.Redundant.{Redundant}
use Rattle.guarded.specs.Model.{Guarded}
use Rattle.guarded.specs.Moduli.{joint_root}

abbrev pub redundant_check : Redundant → ℕ
redundant_check s = s.check.p.number

abbrev pub redundant_redundancy : Redundant → ℕ
redundant_redundancy s = s.t

abbrev pub redundant_modulus : Redundant → ℕ
redundant_modulus s = 3329 * s.check.p.number

abbrev pub redundant_words : Redundant → ℕ
redundant_words s = 3329 * s.check.p.number * s.t

abbrev pub redundant_root : Redundant → ℕ
redundant_root s = joint_root s.check.p.number

abbrev pub redundant_element : Redundant → ℕ → Bool
redundant_element s w = nat_lt w (3329 * s.check.p.number * s.t)

abbrev pub redundant_meaning : Redundant → ℕ → ℕ
redundant_meaning s w = w % (3329 * s.check.p.number)

abbrev pub redundant_number : Redundant → ℕ → ℕ
redundant_number s w = w / (3329 * s.check.p.number)

-- the same by p and t
abbrev pub redundant_model : (p t : ℕ) → Guarded ℕ
redundant_model p t =
    record {
      p = p;
      t = t;
      w = joint_root p;
      element = λ w. nat_lt w (3329 * p * t);
      meaning = λ w. w % (3329 * p);
      number = λ w. w / (3329 * p);
    }
