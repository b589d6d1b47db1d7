-- A layer by its formula is a layer by its blocks; and each position is in the low or the high half of a block.
use Rattle.std.proofs.Common.{◌≡◌, ℕ, ◌+◌, ◌-◌, ◌*◌, ◌/◌, ◌%◌, ◌<◌, subst, mod-lt, div-lt_iff_lt-mul, arith}
use native.Mathlib.Nat.{div-add-mod}
use native.Mathlib.Decide.{dec_lt}
use lib.Arith.{digits_div, digits_mod}
use Rattle.std.proofs.lemmas.Bool.{lt-ltb, le-ltb}
use Rattle.algebra.specs.Layers.{forward, inverse, ForwardPairs, InversePairs}
use Rattle.algebra.proofs.Modular.{same_refl}

module _ (len count : ℕ) (pos : 0 < len) (P : ℕ → Type 0)
    (low : (g o : ℕ) → g < count → o < len → P (g * (2 * len) + o))
    (high : (g o : ℕ) → g < count → o < len → P (g * (2 * len) + o + len)) where
  pub in_halves : (j : ℕ) → j < count * (2 * len) → P j
  in_halves j h = go (dec_lt (j % (2 * len)) len)
    where
      g : ℕ
      g = j / (2 * len)

      r : ℕ
      r = j % (2 * len)

      less : g < count
      less = (div-lt_iff_lt-mul {k = 2 * len} (omega arith)).1 h

      is : g * (2 * len) + r ≡ j
      is = omega (arith, div-add-mod j (2 * len))

      small : r < 2 * len
      small = mod-lt j (omega arith)

      go : Dec (r < len) → P j
      go (yes k) = subst P is (low g r less k)
      go (no k) =
          let e : g * (2 * len) + (r - len) + len ≡ j = omega (arith, is, small) in
          subst P e (high g (r - len) less (omega (arith, small)))

module _ (neg len count : ℕ) (z f : ℕ → ℕ) where
  pub forward_is : ForwardPairs neg len count z f (forward neg len z f)
  unfolding forward
  forward_is =
      record {
        low = λ g o h k.
            let l : o < 2 * len = omega arith in
            rw (digits_mod g l, digits_div g l, lt-ltb o len k) same_refl;
        high = λ g o h k.
            let l : o + len < 2 * len = omega arith in
            let e : g * (2 * len) + o + len ≡ g * (2 * len) + (o + len) = omega arith in
            let s : g * (2 * len) + (o + len) - len ≡ g * (2 * len) + o = omega arith in
            rw (e, digits_mod g l, digits_div g l, le-ltb (o + len) len (omega arith), s) same_refl;
      }

  pub inverse_is : InversePairs neg len count z f (inverse neg len z f)
  unfolding inverse
  inverse_is =
      record {
        low = λ g o h k.
            let l : o < 2 * len = omega arith in
            rw (digits_mod g l, lt-ltb o len k) same_refl;
        high = λ g o h k.
            let l : o + len < 2 * len = omega arith in
            let e : g * (2 * len) + o + len ≡ g * (2 * len) + (o + len) = omega arith in
            let s : g * (2 * len) + (o + len) - len ≡ g * (2 * len) + o = omega arith in
            rw (e, digits_mod g l, digits_div g l, le-ltb (o + len) len (omega arith), s) same_refl;
      }
