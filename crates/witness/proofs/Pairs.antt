-- Two numbers that are written side by side.
use Prim.Native.Nat.{ℕ, ◌+◌, ◌*◌, ◌<◌}
use mathlib.Core.Path.{◌≡◌, ◌∙◌}
use mathlib.Core.List.{List}
use mathlib.Core.Logic.{◌≢◌}
use native.Mathlib.Omega.{arith}
use lib.ListN.{length, set, get_or, length-set}
use lib.Seq.{get_or-set_same, get_or-set_other}

-- x at 2 n and y after it
abbrev pub pair_set : List ℕ → (n x y : ℕ) → List ℕ
pair_set xs n x y = set (set xs (2 * n) x) (2 * n + 1) y

module _ (xs : List ℕ) (n x y : ℕ) where
  pub pair_other : (k : ℕ) → k ≢ 2 * n → k ≢ 2 * n + 1 → get_or (pair_set xs n x y) k 0 ≡ get_or xs k 0
  pair_other k h l = get_or-set_other (set xs (2 * n) x) (2 * n + 1) k y 0 l ∙ get_or-set_other xs (2 * n) k x 0 h

  module _ (room : 2 * n + 1 < length xs) where
    pub pair_first : get_or (pair_set xs n x y) (2 * n) 0 ≡ x
    pair_first = get_or-set_other (set xs (2 * n) x) (2 * n + 1) (2 * n) y 0 (omega arith) ∙ get_or-set_same xs (2 * n) x 0 (omega arith)

    pub pair_second : get_or (pair_set xs n x y) (2 * n + 1) 0 ≡ y
    pair_second = get_or-set_same (set xs (2 * n) x) (2 * n + 1) y 0 (simp length-set room)
