-- A polynomial from which another is subtracted, and products that are added back.
use Rattle.std.proofs.Common.{◌≡◌, ℕ, suc, ◌+◌, ◌<◌, List, ap, ◌∙◌, arith}
use native.Mathlib.Decide.{dec_lt}
use Rattle.algebra.specs.Congruence.{Same}
use Rattle.algebra.specs.Sum.{sum}
use Rattle.algebra.specs.Polynomials.{coefficient, Polynomial, polynomial_product}
use Rattle.algebra.proofs.Modular.{same_of, same_sym, same_refl, same_add, ◌⨾◌}
use Rattle.algebra.proofs.Sums.{sum_zero, sum_suc}
use Rattle.algebra.proofs.Lists.{listed_same, listed_polynomial}
use Rattle.algebra.proofs.Theorems.{ml_kem}
use Rattle.transform.specs.Results.{inverse_of, Transformed, Inverted, Multiplied}
use Rattle.decryption.specs.Restored.{part}
use Rattle.decrypt.specs.Decryption.{term, Rows, Decrypted}

-- the product by the transforms
pub product_by : (u s a b p : List ℕ) → Transformed u a → Multiplied a s b → Inverted b p → p ≡ polynomial_product 3328 u (inverse_of s)
product_by u s a b p T M I =
    I.is ∙ ap inverse_of M.product
    ∙ ml_kem.list_back (polynomial_product 3328 (inverse_of a) (inverse_of s)) (listed_polynomial 3328 _)
    ∙ ap (λ (x : List ℕ). polynomial_product 3328 x (inverse_of s)) T.back

-- nothing was subtracted yet
pub decrypted_none : (u s v w : List ℕ) → Polynomial 3328 w → w ≡ v → Decrypted 0 u s v w
decrypted_none u s v w P e = record { reduced = P; restores = λ j h. same_of (rw (sum_zero (term u s j), e) (omega arith)) }

-- one product more
pub decrypted_more : (k : ℕ) (u s v w w' p : List ℕ) → Decrypted k u s v w → p ≡ polynomial_product 3328 (part u k) (inverse_of (part s k)) → Polynomial 3328 w' →
    ((j : ℕ) → j < 256 → Same 3328 (coefficient w' j + coefficient p j) (coefficient w j)) → Decrypted (k + 1) u s v w'
unfolding term
decrypted_more k u s v w w' p D e P back = record {
  reduced = P;
  restores = λ j h.
      let next : k + 1 ≡ suc k = omega arith in
      let is : Same 3328 (term u s j k) (coefficient p j) =
      same_sym (same_of (ap (λ (x : List ℕ). coefficient x j) e) ⨾ listed_same _ j h) in
      rw (next, sum_suc k (term u s j))
      (same_add (same_refl {x = coefficient w' j}) (same_add (same_refl {x = sum k (term u s j)}) is)
      ⨾ same_of {y = coefficient w' j + coefficient p j + sum k (term u s j)} (omega arith)
      ⨾ same_add (back j h) same_refl ⨾ D.restores j h);
}

pub rows_none : (u s : List ℕ) → Rows 0 u s
rows_none u s = record { u_row = λ i h. absurd (omega arith); s_row = λ i h. absurd (omega arith) }

pub rows_more : (k : ℕ) (u s : List ℕ) → Rows k u s → Polynomial 3328 (part u k) → Polynomial 3328 (part s k) → Rows (k + 1) u s
rows_more k u s R P Q = record {
  u_row = λ i h. elim (dec_lt i k) [
    | yes l ↦ R.u_row i l
    | no l ↦ let e : i ≡ k = omega arith in rw e P
  ];
  s_row = λ i h. elim (dec_lt i k) [
    | yes l ↦ R.s_row i l
    | no l ↦ let e : i ≡ k = omega arith in rw e Q
  ];
}
