-- Remainders go through the transform: where n divides m, the transform modulo m leaves by n the transform modulo n.
use Rattle.std.proofs.Common.{◌≡◌, ℕ, suc, ◌+◌, ◌*◌, ◌%◌, ◌^◌, ◌<◌, ◌≤◌, sym, ap, ◌∙◌, arith}
use native.Mathlib.Nat.{mod-mod_of_dvd, dvd-mul_right}
use lib.Arith.{digits_lt}
use Rattle.algebra.specs.Congruence.{Same}
use Rattle.algebra.specs.Layers.{bitrev, ntt}
use Rattle.algebra.specs.Slots.{size, gamma, slot}
use Rattle.algebra.proofs.Modular.{same_sym, ◌⨾◌, same_mul, same_pow}
use Rattle.algebra.proofs.Sums.{sum_same}
use Rattle.algebra.proofs.Slots.{ntt_slots}
use Rattle.algebra.proofs.Product.{slots_fill}
use Rattle.algebra.proofs.Main.{in_slots}

-- equal modulo m is equal modulo n
pub same_divides : (neg k top : ℕ) {x y : ℕ} → suc top ≡ suc neg * k → Same top x y → Same neg x y
same_divides neg k top {x} {y} e h =
    let by : (z : ℕ) → z % suc top % suc neg ≡ z % suc neg =
    λ z. ap (λ (m : ℕ). z % m % suc neg) e ∙ mod-mod_of_dvd (suc neg) z (dvd-mul_right (suc neg) k) in
    record { same = sym (by x) ∙ ap (λ (z : ℕ). z % suc neg) h.same ∙ by y }

module _ {neg : ℕ} (L w v : ℕ) (roots : Same neg w v) where
  slot_other : (f g : ℕ → ℕ) → ((j : ℕ) → j < 256 → Same neg (f j) (g j)) → L ≤ 8 → (i o : ℕ) → o < size L → Same neg (slot L w f i o) (slot L v g i o)
  unfolding slot gamma
  slot_other f g e top i o l =
      sum_same (2 ^ L) _ _ (λ n h. same_mul (e (n * size L + o) (omega (arith, digits_lt h l, slots_fill L top))) (same_pow (same_pow roots (2 * bitrev L i + 1)) n))

-- the transform of f modulo suc big, and that of g modulo suc neg, where f and g are equal modulo suc neg
pub ntt_reduces : (neg big k L w v : ℕ) → suc big ≡ suc neg * k → L ≤ 8 → Same big (w ^ (2 ^ L)) big → Same neg (v ^ (2 ^ L)) neg → Same neg w v →
    (f g : ℕ → ℕ) → ((j : ℕ) → j < 256 → Same neg (f j) (g j)) → (j : ℕ) → j < 256 → Same neg (ntt L big w f j) (ntt L neg v g j)
ntt_reduces neg big k L w v e top root small roots f g h =
    in_slots L top (λ j. Same neg (ntt L big w f j) (ntt L neg v g j))
    (λ i o a b.
    same_divides neg k big e (ntt_slots L w top root f i o a b)
    ⨾ slot_other L w v roots f g h top i o b
    ⨾ same_sym (ntt_slots L v top small g i o a b))
