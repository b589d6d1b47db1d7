-- A mask by its butterfly's number.
use Rattle.std.proofs.Common.{◌≡◌, ℕ, ◌/◌, ◌^◌, ◌<◌, ◌≤◌, Bool, true, false, cond, min, List, get_or, sym, refl, ap, ◌∙◌, arith}
use Rattle.std.specs.Int.{is_power_of_two}
use Rattle.std.specs.Int.Count.{count_trailing_zeros}
use Rattle.std.proofs.lemmas.Bool.Decides.{nat_tests}
use Rattle.algebra.specs.Masks.{is_list_length}
use Rattle.algebra.proofs.Tables.{tabulated, tabulated_at}

-- two functions whose tables compute to the same list
same_at : (f g : ℕ → ℕ) (count k : ℕ) → tabulated f 0 count ≡ tabulated g 0 count → k < count → f k ≡ g k
same_at f g count k e h = sym (tabulated_at f count k h) ∙ ap (λ (xs : List ℕ). get_or xs k 0) e ∙ tabulated_at g count k h

same_test : (a b : Bool) → ◌≡◌ {A = ℕ} (cond a 1 0) (cond b 1 0) → a ≡ b
same_test true true e = refl
same_test false false e = refl
same_test true false e = absurd (omega arith)
same_test false true e = absurd (omega arith)

-- up to 128, the lengths of lists are the powers of two
pub length_is_power : (n : ℕ) → n ≤ 128 → is_power_of_two n ≡ is_list_length n
unfolding lib.Count.ones
length_is_power n h = same_test _ _ (same_at (λ k. cond (is_power_of_two k) 1 0) (λ k. cond (is_list_length k) 1 0) 129 n refl (omega arith))

length_low : (n : ℕ) → is_list_length n ≡ true → n ≤ 128
length_low n h = grind (arith, nat_tests)

-- the width of a block is one too
pub width_is : (n : ℕ) → is_list_length n ≡ true → 128 / n ≡ 2 ^ count_trailing_zeros 64 (128 / n)
unfolding count_trailing_zeros
width_is n h =
    let e = same_at (λ k. cond (is_list_length k) (128 / k) 0) (λ k. cond (is_list_length k) (2 ^ count_trailing_zeros 64 (128 / k)) 0) 129 n refl (omega (arith, length_low n h)) in
    rw h at e

pub width_low : (n : ℕ) → is_list_length n ≡ true → count_trailing_zeros 64 (128 / n) < 8
unfolding count_trailing_zeros
width_low n h =
    let e = same_at (λ k. cond (is_list_length k) (count_trailing_zeros 64 (128 / k)) 0) (λ k. cond (is_list_length k) (min 7 (count_trailing_zeros 64 (128 / k))) 0) 129 n refl (omega (arith, length_low n h)) in
    omega (arith, rw h at e)
