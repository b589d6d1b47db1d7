-- The arithmetic of decryption: v minus the sum of u[i] * s[i], modulo X ^ 256 + 1 and 3329.
use Rattle.std.specs.Prelude.{◌≡◌, ℕ, ◌*◌, ◌<◌, List, length, Option, MatchOption}
use Rattle.algebra.specs.Product.{product}
use Rattle.algebra.specs.Polynomials.{coefficient, Polynomial}
use Rattle.transform.specs.Results.{inverse_of}
use Rattle.decryption.specs.Restored.{part, Restored}

-- coefficient j of u[i] * s[i], where the row holds s[i] transformed
unfoldable pub term : (u s : List ℕ) (j i : ℕ) → ℕ
term u s j i = product 3328 (coefficient (part u i)) (coefficient (inverse_of (part s i))) j

-- there is an answer exactly where P holds, and Q holds of it
abbrev pub Exactly : {X : Type 0} → Option X → Type 0 → (X → Type 0) → Type 0
Exactly answer P Q = MatchOption answer (P → ⊥) (λ x. P × Q x)

-- rows of the first k polynomials, each of 256 coefficients below 3329
pub record Rows (k : ℕ) (u s : List ℕ) : Type 0 where
  pub u_row : (i : ℕ) → i < k → Polynomial 3328 (part u i)
  pub s_row : (i : ℕ) → i < k → Polynomial 3328 (part s i)

pub record Proper (k : ℕ) (u s v : List ℕ) : Type 0 where
  pub u_size : length u ≡ 256 * k
  pub s_size : length s ≡ 256 * k
  pub v_row : Polynomial 3328 v
  pub rows : Rows k u s

-- w with the first k products added is v
abbrev pub Decrypted : (k : ℕ) (u s v w : List ℕ) → Type 0
Decrypted k u s v w = Restored (term u s) k v w
