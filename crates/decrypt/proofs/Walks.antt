-- A walk over two rows, one polynomial of each at a time.
use Rattle.std.proofs.Common.{◌≡◌, ℕ, ◌+◌, ◌<◌, List, ap, ◌∙◌, subst}
use denote.Ref.{Bor}
use Rattle.std.specs.declared.slice.ChunksExact.{ChunksExact}
use Rattle.algebra.specs.Congruence.{Same}
use Rattle.algebra.specs.Polynomials.{coefficient, Polynomial, polynomial_product}
use Rattle.transform.specs.Results.{inverse_of}
use Rattle.decryption.specs.Restored.{part}
use Rattle.decryption.proofs.Chunks.{Left, Comes}
use Rattle.decrypt.specs.Decryption.{Rows, Decrypted}
use Rattle.decrypt.proofs.Differences.{decrypted_more, rows_more}

-- the first k products were subtracted
pub record Walked (k : ℕ) (u s v w : List ℕ) (us ss : ChunksExact ℕ) : Type 0 where
  pub u_left : Left 256 k u us
  pub s_left : Left 256 k s ss
  pub decrypted : Decrypted k u s v w
  pub rows : Rows k u s

-- one product more was subtracted
pub walked_more : (k : ℕ) (u s v w w' p : List ℕ) (us ss us' ss' : ChunksExact ℕ) (x y : Bor (List ℕ)) → Walked k u s v w us ss → Comes 256 k u x us' → Comes 256 k s y ss' →
    Polynomial 3328 x.now × Polynomial 3328 y.now → p ≡ polynomial_product 3328 x.now (inverse_of y.now) → Polynomial 3328 w' →
    ((j : ℕ) → j < 256 → Same 3328 (coefficient w' j + coefficient p j) (coefficient w j)) → Walked (k + 1) u s v w' us' ss'
walked_more k u s v w w' p us ss us' ss' x y W a b proper e below restores = record {
  u_left = a.left;
  s_left = b.left;
  decrypted = decrypted_more k u s v w w' p W.decrypted
      (e ∙ ap (λ (z : List ℕ). polynomial_product 3328 z (inverse_of y.now)) a.is ∙ ap (λ (z : List ℕ). polynomial_product 3328 (part u k) (inverse_of z)) b.is) below restores;
  rows = rows_more k u s W.rows (subst (Polynomial 3328) a.is proper.0) (subst (Polynomial 3328) b.is proper.1);
}
