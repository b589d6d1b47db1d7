-- One layer more, by the number of groups: forward layer suc t has 2 ^ t of them, and so has inverse layer suc s where s + suc t is L.
use Rattle.std.proofs.Common.{◌≡◌, ℕ, suc, ◌+◌, ◌-◌, ◌^◌, ◌≤◌, refl, ap, ap₂, arith}
use Rattle.algebra.specs.Layers.{bitrev, forward, inverse, forward_exponent, inverse_exponent, forward_factor, inverse_factor, layers, inv_layers}

-- the exponents and the factors of a layer of 2 ^ t groups
unfoldable pub twist : (L t g : ℕ) → ℕ
twist L t g = bitrev L (2 ^ t + g)

unfoldable pub twist_back : (L t g : ℕ) → ℕ
twist_back L t g = bitrev L (2 ^ suc t - 1 - g)

unfoldable pub zeta : (L w t : ℕ) → ℕ → ℕ
zeta L w t g = w ^ twist L t g

unfoldable pub zeta_back : (L w t : ℕ) → ℕ → ℕ
zeta_back L w t g = w ^ twist_back L t g

-- the lens and the exponents of the layers by their numbers
pub forward_len_is : (t : ℕ) → 2 ^ (8 - suc t) ≡ 2 ^ (7 - t)
forward_len_is t = ap (λ n. 2 ^ n) (omega arith)

pub forward_groups_is : (t : ℕ) → 2 ^ (suc t - 1) ≡ 2 ^ t
forward_groups_is t = ap (λ n. 2 ^ n) (omega arith)

pub forward_exponent_is : (L t : ℕ) → forward_exponent L (suc t) ≡ twist L t
unfolding forward_exponent twist
forward_exponent_is L t =
    let e : suc t - 1 ≡ t = omega arith in
    ap (λ k g. bitrev L (2 ^ k + g)) e

pub forward_factor_is : (L w t : ℕ) → forward_factor L w (suc t) ≡ zeta L w t
unfolding forward_factor zeta
forward_factor_is L w t = ap (λ z g. w ^ z g) (forward_exponent_is L t)

module _ (L s t : ℕ) (top : L ≤ 8) (sum : s + suc t ≡ L) where
  pub inverse_len_is : 2 ^ (suc s + 7 - L) ≡ 2 ^ (7 - t)
  inverse_len_is = ap (λ n. 2 ^ n) (omega arith)

  pub inverse_groups_is : 2 ^ (L - suc s) ≡ 2 ^ t
  inverse_groups_is = ap (λ n. 2 ^ n) (omega arith)

  pub inverse_exponent_is : inverse_exponent L (suc s) ≡ twist_back L t
  unfolding inverse_exponent twist_back
  inverse_exponent_is =
      let e : suc L - suc s ≡ suc t = omega arith in
      ap (λ k g. bitrev L (2 ^ k - 1 - g)) e

  pub inverse_factor_is : (w : ℕ) → inverse_factor L w (suc s) ≡ zeta_back L w t
  unfolding inverse_factor zeta_back
  inverse_factor_is w = ap (λ z g. w ^ z g) inverse_exponent_is

pub layers_zero : (L neg w : ℕ) (f : ℕ → ℕ) → layers L neg w 0 f ≡ f
unfolding layers
layers_zero L neg w f = refl

pub layers_suc : (L neg w t : ℕ) (f : ℕ → ℕ) → layers L neg w (suc t) f ≡ forward neg (2 ^ (7 - t)) (zeta L w t) (layers L neg w t f)
unfolding layers
layers_suc L neg w t f = ap₂ (λ len z. forward neg len z (layers L neg w t f)) (forward_len_is t) (forward_factor_is L w t)

pub inv_layers_zero : (L neg w : ℕ) (f : ℕ → ℕ) → inv_layers L neg w 0 f ≡ f
unfolding inv_layers
inv_layers_zero L neg w f = refl

pub inv_layers_suc : (L neg w s t : ℕ) (f : ℕ → ℕ) → L ≤ 8 → s + suc t ≡ L →
    inv_layers L neg w (suc s) f ≡ inverse neg (2 ^ (7 - t)) (zeta_back L w t) (inv_layers L neg w s f)
unfolding inv_layers
inv_layers_suc L neg w s t f h e =
    ap₂ (λ len z. inverse neg len z (inv_layers L neg w s f)) (inverse_len_is L s t h e) (inverse_factor_is L s t h e w)
