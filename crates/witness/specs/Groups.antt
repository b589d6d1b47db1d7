-- The transform of J. All its coefficients are equal, so after each layer the positions of a group hold one number: a list has them, group by group.
use Rattle.std.specs.Prelude.{ℕ, pred, ◌+◌, ◌-◌, ◌*◌, ◌%◌, ◌^◌, ◌<◌, ◌≤◌, ◌≡◌, List, length}
use Rattle.algebra.specs.Congruence.{Same}
use Rattle.algebra.specs.Layers.{bitrev, layers}
use Rattle.algebra.specs.Slots.{gamma}
use Rattle.algebra.specs.Product.{ones}
use Rattle.algebra.specs.Polynomials.{coefficient}

-- one layer of count groups, done from the group `from` on: a group that holds v, with the factor z, becomes one of v + z v and one of v - z v
pub record Halved (p w count from : ℕ) (xs ys : List ℕ) : Type 0 where
  pub size : length ys ≡ length xs
  pub small : (k : ℕ) → coefficient ys k < p
  pub before : (g : ℕ) → g < from → coefficient ys g ≡ coefficient xs g
  pub low : (g : ℕ) → from ≤ g → g < count → Same (pred p) (coefficient ys (2 * g)) (coefficient xs g + w ^ bitrev 7 (count + g) * coefficient xs g)
  pub high : (g : ℕ) → from ≤ g → g < count → Same (pred p) (coefficient ys (2 * g + 1)) (coefficient xs g + pred p * (w ^ bitrev 7 (count + g) * coefficient xs g))

-- the numbers of J's groups after t layers
pub record Groups (p w t : ℕ) (xs : List ℕ) : Type 0 where
  pub small : (k : ℕ) → coefficient xs k < p
  pub here : (g o : ℕ) → g < 2 ^ t → o < 2 * 2 ^ (7 - t) → Same (pred p) (layers 7 (pred p) w t ones (g * (2 * 2 ^ (7 - t)) + o)) (coefficient xs g)

-- the first n slots of a J + b J ^ 2, from those of J
pub record SlotsDue (p w a b n : ℕ) (xs numbers : List ℕ) : Type 0 where
  pub first : (i : ℕ) → i < n → coefficient numbers (2 * i) ≡ (a * coefficient xs i + b * (coefficient xs i * coefficient xs i + coefficient xs i * coefficient xs i * gamma 7 w i)) % p
  pub second : (i : ℕ) → i < n → coefficient numbers (2 * i + 1) ≡ (a * coefficient xs i + b * (coefficient xs i * coefficient xs i + coefficient xs i * coefficient xs i)) % p
