-- The transform without layers: slot i of f is f modulo X ^ size - gamma i.
use Rattle.std.specs.Prelude.{ℕ, ◌+◌, ◌-◌, ◌*◌, ◌^◌}
use Rattle.algebra.specs.Sum.{sum}
use Rattle.algebra.specs.Layers.{bitrev}

-- the coefficients of a slot: after L layers there are 2 ^ L slots, of 2 coefficients where L is 7, of 1 where it is 8
abbrev pub size : (L : ℕ) → ℕ
size L = 2 ^ (8 - L)

-- the root of slot i: the standard keeps the slots in the order of reversed bits
unfoldable pub gamma : (L w i : ℕ) → ℕ
gamma L w i = w ^ (2 * bitrev L i + 1)

-- coefficient o of slot i
unfoldable pub slot : (L w : ℕ) → (ℕ → ℕ) → (i o : ℕ) → ℕ
slot L w f i o = sum (2 ^ L) (λ n. f (n * size L + o) * gamma L w i ^ n)
