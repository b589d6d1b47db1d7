-- What a decryption computes: v minus a sum of products, modulo X ^ 256 + 1 and 3329.
use Rattle.std.specs.Prelude.{ℕ, ◌+◌, ◌*◌, ◌<◌, List, take, drop}
use Rattle.algebra.specs.Congruence.{Same}
use Rattle.algebra.specs.Sum.{sum}
use Rattle.algebra.specs.Polynomials.{coefficient, Polynomial}

-- polynomial i of a row of them
abbrev pub part : List ℕ → ℕ → List ℕ
part xs i = take 256 (drop (256 * i) xs)

-- w with the first k products added is v, where term j i is coefficient j of product i
pub record Restored (term : (j i : ℕ) → ℕ) (k : ℕ) (v w : List ℕ) : Type 0 where
  pub reduced : Polynomial 3328 w
  pub restores : (j : ℕ) → j < 256 → Same 3328 (coefficient w j + sum k (term j)) (coefficient v j)
