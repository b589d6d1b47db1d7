-- Equality modulo a number. The modulus is written suc neg, so that neg stands for -1 and x + neg * y for x - y.
use Rattle.std.specs.Prelude.{◌≡◌, ℕ, suc, ◌%◌}

pub record Same (neg x y : ℕ) : Type 0 where
  pub same : x % suc neg ≡ y % suc neg
