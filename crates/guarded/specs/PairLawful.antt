-- The pairs of remainders are a guarded ring.
use Rattle.std.specs.Prelude.{◌≡◌, ℕ, ◌%◌, ◌<◌, true, nat_lt, refl}
use Rattle.std.proofs.Common.{sym, ap, ap₂, ◌∙◌, arith, mod-eq_of_lt, lit<, lit≤}
use Rattle.std.proofs.lemmas.Bool.{ltb-true, and_parts}
use Rattle.guarded.specs.declared.pair.Pair.{Pair}
use Rattle.guarded.specs.declared.pair.Residues.{Residues}
use Rattle.guarded.specs.Model.{Lawful}
use Rattle.guarded.specs.Moduli.{is_check, joint_root}
use Rattle.guarded.specs.PairRing.{pair_check, pair_element, pair_meaning, pair_number}
use Rattle.guarded.specs.ModuliLemmas.{known_above, known_below, known_prime, known_turned, known_coefficient}
use Rattle.guarded.specs.TwoRemainders.{both_below, both_plain, both_guard, both_of, both_stays}

same_residues : (u v : Residues) → u.coefficient ≡ v.coefficient → u.check ≡ v.check → u ≡ v
same_residues u v e f = ap₂ (λ (x y : ℕ). residues x y) e f
  where
    residues : ℕ → ℕ → Residues
    residues x y = record { coefficient = x; check = y }

pub pair_lawful : (s : Pair) →
    Lawful {W = Residues} (record { p = pair_check s; t = 1; w = joint_root (pair_check s); element = pair_element s; meaning = pair_meaning s; number = pair_number s })
pair_lawful s =
    let p : ℕ = pair_check s in
    let h : is_check p ≡ true = s.known in
    let above : 3329 < p = known_above p h in
    let small : p < 12290 = known_below p h in
    let left : (v : Residues) → pair_element s v ≡ true → v.coefficient < 3329 =
    λ v e. ltb-true v.coefficient 3329 (and_parts (nat_lt v.coefficient 3329) (nat_lt v.check p) e).0 in
    let right : (v : Residues) → pair_element s v ≡ true → v.check < p =
    λ v e. ltb-true v.check p (and_parts (nat_lt v.coefficient 3329) (nat_lt v.check p) e).1 in
    record {
      above = above;
      fits = omega arith;
      prime = known_prime p h;
      least = lit≤ tt;
      most = lit≤ tt;
      halfway = known_turned p h;
      coefficient_root = known_coefficient p h;
      below = λ v e. both_below p h v.coefficient v.check (left v e);
      numbered = λ v e. lit< tt;
      exists = λ x k l i. (
        record { coefficient = x % 3329; check = x % p },
        (
          both_stays p h x x (x % 3329) (x % p) refl refl,
          (both_of p h x (x % 3329) (x % p) refl refl ∙ mod-eq_of_lt l, omega arith),
        ),
      );
      unique = λ u v e f m k.
          same_residues u v
          (sym (both_plain p h u.coefficient u.check (left u e)) ∙ ap (λ (x : ℕ). x % 3329) m ∙ both_plain p h v.coefficient v.check (left v f))
          (sym (both_guard p h u.coefficient u.check (left u e) (right u e)) ∙ ap (λ (x : ℕ). x % p) m ∙ both_guard p h v.coefficient v.check (left v f) (right v f));
    }
