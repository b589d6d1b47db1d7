-- The algebra of every guarded ring, and so the theorem.
use Rattle.std.proofs.Common.{◌≡◌, ℕ, zero, suc, pred, ◌+◌, ◌*◌, ◌/◌, ◌%◌, ◌^◌, ◌<◌, sym, refl, ap, ◌∙◌, ⊎_elim, mod-eq_of_lt, arith}
use native.Mathlib.Nat.{mod_self, add-mul-mod_self_left}
use Rattle.algebra.specs.Congruence.{Same}
use Rattle.algebra.proofs.Modular.{same_of, same_refl, same_sym, ◌⨾◌, same_by, same_add, same_mul_left, same_mul_right, same_pow}
use Rattle.algebra.proofs.Powers.{mul_pow}
use Rattle.algebra.proofs.Reduction.{same_divides}
use Rattle.guarded.specs.Model.{Guarded, Lawful}
use Rattle.histories.specs.Operations.{Base, neg, inverse_of_128}
use Rattle.histories.specs.Calls.{coefficients, checks, meanings}
use Rattle.histories.specs.Theorem.{Theorem}
use Rattle.histories.proofs.Asked.{Reduces, Transforms, Algebra}
use Rattle.histories.proofs.Forms.{done_most}
use Rattle.histories.proofs.Cancelling.{cancel_add}
use Rattle.histories.proofs.Stepped.{expected_good, expected_whole, steps}
use Rattle.histories.proofs.Injective.{layer_injective}
use Rattle.histories.proofs.Together.{mod_same, result_good, witness_good, inverse_good, witnesses, joined, forward_back, left_injective, right_injective}
use Rattle.histories.proofs.Reduced.{layers_reduce, results_reduce}
use Rattle.histories.proofs.Main.{undisturbed_stands, detected_stands}
use Rattle.histories.proofs.Paired.{alike_stands}

-- the inverse of 128 modulo an odd number
pub unit_of : (B : Base) → B.modulus % 2 ≡ 1 → Same (neg B) (inverse_of_128 B * 2 ^ 7) 1
unit_of B odd = go B.modulus odd
  where
    go : (m : ℕ) → m % 2 ≡ 1 → Same (pred m) ((suc m / 2) ^ 7 * 2 ^ 7) 1
    go zero h = absurd (omega arith)
    go (suc m) h =
        let two : Same m (suc (suc m) / 2 * 2) 1 = same_by 0 1 (omega arith) in
        same_of (sym (mul_pow (suc (suc m) / 2) 2 7)) ⨾ same_pow two 7

transforming : (B : Base) → 0 < B.modulus → Same (neg B) (B.root ^ (2 ^ 7)) (neg B) → Same (neg B) (inverse_of_128 B * 2 ^ 7) 1 → Transforms B
transforming B pos root unit =
    record {
      positive = pos;
      result_good = result_good B;
      expected_good = expected_good B;
      expected_whole = expected_whole B;
      steps = λ way F e e' f t fine g. steps B root unit way F e e' f t fine;
      joined = joined B root unit;
    }

module _ {W : Type 0} (G : Guarded W) (Y : Lawful G) where
  pos : 0 < G.p
  pos = omega (arith, Y.above)

  pub odd : G.p % 2 ≡ 1
  odd = go (G.p % 2) refl
    where
      go : (r : ℕ) → G.p % 2 ≡ r → G.p % 2 ≡ 1
      go zero e =
          let k = G.p / 2 in
          let h : 2 * k ≡ G.p = omega arith in
          let a = Y.above in
          absurd (⊎_elim (λ (z : 2 % G.p ≡ 0). let t : 2 % G.p ≡ 2 = mod-eq_of_lt (omega arith) in omega arith)
          (λ (z : k % G.p ≡ 0). let t : k % G.p ≡ k = mod-eq_of_lt (omega arith) in omega arith)
          (Y.prime 2 k (ap (λ (x : ℕ). x % G.p) h ∙ mod_self G.p)))
      go (suc zero) e = e
      go (suc (suc r)) e = absurd (omega arith)

  pub full_odd : (3329 * G.p) % 2 ≡ 1
  full_odd =
      let o = odd in
      let e : 3329 * G.p ≡ 1 + 2 * (3329 * (G.p / 2) + 1664) = omega arith in
      ap (λ (x : ℕ). x % 2) e ∙ add-mul-mod_self_left 1 2 (3329 * (G.p / 2) + 1664)

  -- the modulus of the ring is that of B, k times
  module _ (B : Base) (posB : 0 < B.modulus) (k : ℕ) (e : 3329 * G.p ≡ B.modulus * k) where
    down : (x y : ℕ) → Same (neg (meanings G)) x y → Same (neg B) x y
    down x y h = go B.modulus (3329 * G.p) posB (omega (arith, pos)) e h
      where
        go : (m n : ℕ) → 0 < m → 0 < n → n ≡ m * k → Same (pred n) x y → Same (pred m) x y
        go zero n a b q s = absurd (omega arith)
        go (suc m) zero a b q s = absurd (omega arith)
        go (suc m) (suc n) a b q s = same_divides m k n q s

    -- what is -1 modulo the ring's modulus is -1 modulo B's
    minus_one : (x : ℕ) → Same (neg (meanings G)) (x + 1) 0 → Same (neg B) x (neg B)
    minus_one x h = cancel_add x (neg B) 1 (down (x + 1) 0 h ⨾ same_sym (self B.modulus posB))
      where
        self : (m : ℕ) → 0 < m → Same (pred m) (pred m + 1) 0
        self zero a = absurd (omega arith)
        self (suc m) a = same_by 0 1 (omega arith)

    minuses : Same (neg B) (neg (meanings G)) (neg B)
    minuses = minus_one (neg (meanings G)) (go (3329 * G.p) (omega (arith, pos)))
      where
        go : (n : ℕ) → 0 < n → Same (pred n) (pred n + 1) 0
        go zero a = absurd (omega arith)
        go (suc n) a = same_by 0 1 (omega arith)

    inverses : Same (neg B) (inverse_of_128 B * 2 ^ 7) 1 → Same (neg B) (inverse_of_128 (meanings G)) (inverse_of_128 B)
    inverses u =
        let a = inverse_of_128 (meanings G) in
        let b = inverse_of_128 B in
        let v = down (a * 2 ^ 7) 1 (unit_of (meanings G) full_odd) in
        same_of {y = a * 1} (omega arith) ⨾ same_mul_left a (same_sym u) ⨾ same_of {y = a * 2 ^ 7 * b} (omega arith) ⨾ same_mul_right b v ⨾ same_of (omega arith)

    reducing : Same (neg B) G.w B.root → Same (neg B) (inverse_of_128 B * 2 ^ 7) 1 → Reduces (meanings G) B
    reducing roots u =
        record {
          layers_reduce = λ way s e e' x g. layers_reduce (meanings G) B posB down roots minuses (inverses u) way s e e' x;
          results_reduce = λ o x y gx gy. results_reduce (meanings G) B posB down roots minuses (inverses u) o x y;
        }

  coefficients_root : Same 3328 (17 ^ (2 ^ 7)) 3328
  coefficients_root = record { same = refl }

  halfway : Same (neg (meanings G)) (G.w ^ (2 ^ 7) + 1) 0
  halfway = go (3329 * G.p) (omega (arith, pos)) Y.halfway
    where
      go : (n : ℕ) → 0 < n → (G.w ^ 128 + 1) % n ≡ 0 → Same (pred n) (G.w ^ (2 ^ 7) + 1) 0
      go zero a h = absurd (omega arith)
      go (suc n) a h = record { same = h ∙ sym (mod-eq_of_lt a) }

  pub checks_root : Same (neg (checks G)) (G.w ^ (2 ^ 7)) (neg (checks G))
  checks_root = minus_one (checks G) pos 3329 (omega arith) (G.w ^ (2 ^ 7)) halfway

  pub checks_unit : Same (neg (checks G)) (inverse_of_128 (checks G) * 2 ^ 7) 1
  checks_unit = unit_of (checks G) odd

  coefficients_unit : Same 3328 (inverse_of_128 coefficients * 2 ^ 7) 1
  coefficients_unit = unit_of coefficients refl

  -- p is prime
  cancels : (a u v : ℕ) → 0 < a → a < G.p → Same (pred G.p) (a * u) (a * v) → Same (pred G.p) u v
  cancels a u v h l e =
      let c = pred G.p in
      let z : Same c (a * (u + c * v)) 0 = same_of {y = a * u + c * (a * v)} (omega arith) ⨾ same_add e same_refl ⨾ same_by 0 (a * v) (omega arith) in
      ⊎_elim (λ (s : a % G.p ≡ 0). let t : a % G.p ≡ a = mod-eq_of_lt l in absurd (omega arith))
      (λ (s : (u + c * v) % G.p ≡ 0).
      let k : Same c (u + c * v) 0 = same_sym (mod_same G.p (u + c * v) pos) ⨾ same_of s in
      same_by {y = u + c * v + v} v 0 (omega arith) ⨾ same_add k same_refl ⨾ same_of (omega arith))
      (Y.prime a (u + c * v) (nought G.p pos (a * (u + c * v)) z))
    where
      nought : (m : ℕ) → 0 < m → (x : ℕ) → Same (pred m) x 0 → x % m ≡ 0
      nought zero a x s = absurd (omega arith)
      nought (suc m) a x s = s.same ∙ mod-eq_of_lt a

  pub algebra : Algebra G
  algebra =
      record {
        to_coefficients = reducing coefficients (omega arith) G.p refl (record { same = Y.coefficient_root }) coefficients_unit;
        to_checks = reducing (checks G) pos 3329 (omega arith) same_refl checks_unit;
        on_coefficients = transforming coefficients (omega arith) coefficients_root coefficients_unit;
        on_checks = transforming (checks G) pos checks_root checks_unit;
        checking =
            record {
              layer_injective = λ way F e e' x y t fine gx gy. layer_injective (checks G) checks_root checks_unit way _ e e' x y (omega (arith, done_most F fine)) gx gy;
              left_injective = λ o x y z gx gy gz. left_injective (checks G) checks_root checks_unit cancels o x y z gx gy;
              right_injective = λ o x y z gx gy gz. right_injective (checks G) checks_root checks_unit cancels o x y z gx gy;
              witness_good = witness_good (checks G);
              witnesses = λ o a b a' b' ha hb ha' hb' s. witnesses (checks G) pos o a b a' b' ha' hb' s;
            };
        inverse_good = inverse_good coefficients;
        inverse_back = forward_back coefficients coefficients_root coefficients_unit;
      }

pub whole : (V W : Type 0) → Theorem V W
whole V W G H Y Z =
    let A = algebra G Y in
    let B = algebra H Z in
    record {
      undisturbed = λ e es s words h. undisturbed_stands G Y A h;
      detected = λ e es s words h. detected_stands G Y A h;
      alike = λ one. alike_stands G H Y Z A B one;
    }
