-- What the sums and products of the code leave modulo p.
use Prim.Native.Nat.{ℕ, zero, suc, pred, ◌+◌, ◌-◌, ◌*◌, ◌%◌, ◌^◌, ◌<◌}
use mathlib.Core.Path.{◌≡◌, ap, ◌∙◌}
use native.Mathlib.Omega.{arith}
use native.Mathlib.Nat.{mod-lt}
use Rattle.algebra.specs.Congruence.{Same}
use Rattle.algebra.specs.Layers.{bitrev}
use Rattle.algebra.specs.Slots.{gamma}
use Rattle.algebra.proofs.Modular.{same_of, same_refl, same_mod, same_sub, same_add, same_mul_left, same_mul_right, ◌⨾◌}

pub below : (p x r : ℕ) → 0 < p → r ≡ x % p → r < p
below p x r h e = rw e (mod-lt x h)

-- a remainder is equal to what leaves it
leaves : {neg : ℕ} (x r : ℕ) → r ≡ x % suc neg → Same neg r x
leaves x r e = same_of e ⨾ same_mod x

module _ (a b s q l u v : ℕ) where
  -- both numbers of a slot: s twice in J, so s² + s²c and 2s² in J²
  pub slot_first : (p c t r : ℕ) → 0 < p → q ≡ (s * s) % p → u ≡ (b * q) % p → l ≡ (a * s) % p → v ≡ (l + u) % p → t ≡ (u * c) % p → r ≡ (v + t) % p →
      r ≡ (a * s + b * (s * s + s * s * c)) % p
  slot_first zero c t r some eq eu el ev et er = absurd (omega arith)
  slot_first (suc neg) c t r some eq eu el ev et er =
      let square : Same neg u (b * (s * s)) = leaves (b * q) u eu ⨾ same_mul_left b (leaves (s * s) q eq) in
      let both : Same neg v (a * s + b * (s * s)) = leaves (l + u) v ev ⨾ same_add (leaves (a * s) l el) square in
      let turned : Same neg t (b * (s * s) * c) = leaves (u * c) t et ⨾ same_mul_right c square in
      let all : Same neg (v + t) (a * s + b * (s * s + s * s * c)) = same_add both turned ⨾ same_of (omega arith) in
      er ∙ all.same

  pub slot_second : (p r : ℕ) → 0 < p → q ≡ (s * s) % p → u ≡ (b * q) % p → l ≡ (a * s) % p → v ≡ (l + u) % p → r ≡ (v + u) % p →
      r ≡ (a * s + b * (s * s + s * s)) % p
  slot_second zero r some eq eu el ev er = absurd (omega arith)
  slot_second (suc neg) r some eq eu el ev er =
      let square : Same neg u (b * (s * s)) = leaves (b * q) u eu ⨾ same_mul_left b (leaves (s * s) q eq) in
      let both : Same neg v (a * s + b * (s * s)) = leaves (l + u) v ev ⨾ same_add (leaves (a * s) l el) square in
      let all : Same neg (v + u) (a * s + b * (s * s + s * s)) = same_add both square ⨾ same_of (omega arith) in
      er ∙ all.same

-- the root c of slot i, as the code looks it up
pub slot_root : (p w a b s i r c x : ℕ) → 0 < p → r ≡ bitrev 7 i → c ≡ (w ^ (2 * r + 1)) % p → x ≡ (a * s + b * (s * s + s * s * c)) % p →
    x ≡ (a * s + b * (s * s + s * s * gamma 7 w i)) % p
unfolding gamma
slot_root zero w a b s i r c x some er ec ex = absurd (omega arith)
slot_root (suc neg) w a b s i r c x some er ec ex =
    let root : Same neg c (w ^ (2 * bitrev 7 i + 1)) = leaves (w ^ (2 * r + 1)) c ec ⨾ same_of (ap (λ (k : ℕ). w ^ (2 * k + 1)) er) in
    let all : Same neg (a * s + b * (s * s + s * s * c)) (a * s + b * (s * s + s * s * w ^ (2 * bitrev 7 i + 1))) =
    same_add same_refl (same_mul_left b (same_add same_refl (same_mul_left (s * s) root))) in
    ex ∙ all.same

module _ (w e z v t : ℕ) where
  -- the two halves of a group that holds v
  pub half_low : (p x : ℕ) → 0 < p → z ≡ (w ^ e) % p → t ≡ (v * z) % p → x ≡ (v + t) % p → Same (pred p) x (v + w ^ e * v)
  half_low zero x some ez et ex = absurd (omega arith)
  half_low (suc neg) x some ez et ex =
      leaves (v + t) x ex ⨾ same_add same_refl (leaves (v * z) t et ⨾ same_mul_left v (leaves (w ^ e) z ez) ⨾ same_of (omega arith))

  pub half_high : (p y : ℕ) → 0 < p → z ≡ (w ^ e) % p → t ≡ (v * z) % p → y ≡ (v + (p - t)) % p → Same (pred p) y (v + pred p * (w ^ e * v))
  half_high zero y some ez et ey = absurd (omega arith)
  half_high (suc neg) y some ez et ey =
      let low : t < suc neg = below (suc neg) (v * z) t some et in
      leaves (v + (suc neg - t)) y ey ⨾ same_sub v t (omega arith)
      ⨾ same_add same_refl (same_mul_left neg (leaves (v * z) t et ⨾ same_mul_left v (leaves (w ^ e) z ez) ⨾ same_of (omega arith)))
