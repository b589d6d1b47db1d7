-- The coefficients of a J + b J ^ 2, one after the other.
use Prim.Native.Nat.{ℕ, zero, suc, pred, ◌+◌, ◌-◌, ◌*◌, ◌%◌, ◌<◌, ◌≤◌}
use mathlib.Core.Path.{◌≡◌, sym, ap, ◌∙◌}
use mathlib.Core.List.{List}
use native.Mathlib.Omega.{arith}
use native.Mathlib.Nat.{mod-lt}
use borrow.Author.Count.{below_more}
use lib.ListN.{length, set}
use lib.Seq.{get_or-set_same, get_or-set_other}
use Rattle.algebra.specs.Congruence.{Same}
use Rattle.algebra.specs.Polynomials.{coefficient}
use Rattle.algebra.proofs.Modular.{same_of, same_sym, same_mod, same_by, same_add, ◌⨾◌}
use Rattle.algebra.proofs.Lists.{listed_is}
use Rattle.histories.specs.Operations.{witness}

abbrev pub value : (p a b k : ℕ) → ℕ
value p a b k = (a + b * (2 * k + pred p * 254)) % p

pub value_first : (p a b : ℕ) → 254 ≤ p → (a + b * (p - 254)) % p ≡ value p a b 0
value_first zero a b h = absurd (omega arith)
value_first (suc neg) a b h = (go (suc neg - 254) (omega arith)).same
  where
    go : (d : ℕ) → neg ≡ d + 253 → Same neg (a + b * d) (a + b * (2 * 0 + neg * 254))
    go d e = same_by (b * 253) 0 (omega (arith, ap (λ (t : ℕ). b * t) e))

pub value_next : (p a b k x step : ℕ) → 0 < p → x ≡ value p a b k → step ≡ (2 * b) % p → (x + step) % p ≡ value p a b (k + 1)
value_next zero a b k x step some ex es = absurd (omega arith)
value_next (suc neg) a b k x step some ex es =
    let next : Same neg (x + step) (a + b * (2 * (k + 1) + neg * 254)) =
    same_add (same_of ex ⨾ same_mod (a + b * (2 * k + neg * 254))) (same_of es ⨾ same_mod (2 * b)) ⨾ same_of (omega arith) in
    next.same

pub values_more : (p a b k x : ℕ) (xs : List ℕ) → k < length xs → x ≡ value p a b k → ((j : ℕ) → j < k → coefficient xs j ≡ value p a b j) →
    (j : ℕ) → j < k + 1 → coefficient (set xs k x) j ≡ value p a b j
values_more p a b k x xs room here before =
    below_more _ _ (λ j h. get_or-set_other xs k j x 0 (omega arith) ∙ before j h) (get_or-set_same xs k x 0 room ∙ here)

pub coefficients_are : (p w a b : ℕ) (xs : List ℕ) → 0 < p → length xs ≡ 256 → ((k : ℕ) → k < 256 → coefficient xs k ≡ value p a b k) →
    xs ≡ witness (record { modulus = p; root = w }) a b
unfolding witness
coefficients_are zero w a b xs some size at = absurd (omega arith)
coefficients_are (suc neg) w a b xs some size at =
    sym (listed_is {neg = neg} (λ k. a + b * (2 * k + neg * 254)) xs
    (record { size = size; small = λ j l. rw (at j l) (mod-lt (a + b * (2 * j + neg * 254)) some) })
    (λ j l. same_sym (same_of (at j l) ⨾ same_mod (a + b * (2 * j + neg * 254)))))
