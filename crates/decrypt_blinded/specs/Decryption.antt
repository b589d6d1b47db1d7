-- The arithmetic of decryption: v minus the sum of u[i] * s[i], modulo X ^ 256 + 1 and 3329.
use Rattle.std.specs.Prelude.{ℕ, List}
use Rattle.algebra.specs.Polynomials.{coefficient}
use Rattle.histories.specs.Operations.{product_of, inverse_of}
use Rattle.histories.specs.Calls.{coefficients}
use Rattle.decryption.specs.Restored.{part, Restored}

-- coefficient j of u[i] * s[i] modulo X ^ 256 + 1 and 3329, where the row holds s[i] transformed
abbrev pub term : (u s : List ℕ) (j i : ℕ) → ℕ
term u s j i = coefficient (product_of coefficients (part u i) (inverse_of coefficients (part s i))) j

-- w with the first k products added is v
abbrev pub Decrypted : (k : ℕ) (u s v w : List ℕ) → Type 0
Decrypted k u s v w = Restored (term u s) k v w
