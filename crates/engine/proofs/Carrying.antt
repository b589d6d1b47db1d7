-- Which byte each position of a layer carries: by the layer's own butterflies, or by those of the neighbour with groups twice as large.
use Rattle.std.proofs.Common.{◌≡◌, ℕ, zero, suc, ◌+◌, ◌-◌, ◌*◌, ◌/◌, ◌^◌, ◌<◌, ◌≤◌, Bool, true, false, cond, ◌||◌, eqb, List, [], ◌∷◌, length, sym, refl, ap, ◌∙◌, arith}
use native.Mathlib.Decide.{ℕ_discrete}
use native.Mathlib.Nat.{pow-succ'}
use Rattle.std.proofs.lemmas.Bool.{eqb-true}
use Rattle.algebra.specs.declared.Direction.TheVariants.{Forward, Inverse}
use Rattle.algebra.specs.Layers.{forward_len, forward_groups, inverse_len, inverse_groups}
use Rattle.algebra.specs.Masks.{is_list_length, suits, mask_after}
use Rattle.algebra.specs.Theorems.{Carries}
use Rattle.algebra.proofs.Slots.{by_parity}
use Rattle.algebra.proofs.MaskLists.{mask_none, mask_end, carries_forward, carries_inverse}
use Rattle.engine.specs.Pairs.{byte_of, own_mask, wide_mask}

-- a list that suits a layer is empty, or has a list's length
pub suits_new : (s : ℕ) (bytes : List ℕ) → suits 7 s bytes ≡ true → (eqb (length bytes) 0 || is_list_length (length bytes)) ≡ true
suits_new s bytes h = go (eqb s 0 || eqb s 7) (eqb (length bytes) 0) (is_list_length (length bytes)) h
  where
    go : (ends none some : Bool) → cond ends none some ≡ true → (none || some) ≡ true
    go true none some h = rw h refl
    go false true some h = refl
    go false false some h = h

nothing : (bytes : List ℕ) → length bytes ≡ 0 → (n : ℕ) → byte_of bytes n ≡ 0
nothing [] h n = refl
nothing (x ∷ xs) h n = absurd (omega arith)

first_none : (bytes : List ℕ) → suits 7 0 bytes ≡ true → (n : ℕ) → byte_of bytes n ≡ 0
first_none bytes h = nothing bytes (eqb-true (length bytes) 0 h)

last_none : (bytes : List ℕ) → suits 7 7 bytes ≡ true → (n : ℕ) → byte_of bytes n ≡ 0
last_none bytes h = nothing bytes (eqb-true (length bytes) 0 h)

wide_carried : (len count : ℕ) (bytes : List ℕ) (e : ℕ → ℕ) → Carries (2 * len) count bytes e →
    (g k : ℕ) → g < 2 * count → k < 2 * len → e (g * (2 * len) + k) ≡ wide_mask bytes len g k
wide_carried len count bytes e C g k h l =
    by_parity (λ (g : ℕ). g < 2 * count → e (g * (2 * len) + k) ≡ wide_mask bytes len g k)
    (λ q h.
    let half : 2 * q / 2 ≡ q = omega arith in
    let place : 2 * q * (2 * len) + k ≡ q * (2 * (2 * len)) + k = omega arith in
    rw (half, place) (C.low q k (omega arith) l))
    (λ q h.
    let half : (2 * q + 1) / 2 ≡ q = omega arith in
    let place : (2 * q + 1) * (2 * len) + k ≡ q * (2 * (2 * len)) + k + 2 * len = omega arith in
    rw (half, place) (C.high q k (omega arith) l))
    g h

-- powers one apart
double : (a b : ℕ) → a ≡ suc b → 2 ^ a ≡ 2 * 2 ^ b
double a b e = ap (λ (k : ℕ). 2 ^ k) e ∙ pow-succ' 2 b

-- forward: a layer's incoming masks lie by the layer before, its outgoing ones by its own butterflies
pub forward_incoming : (t : ℕ) (bytes : List ℕ) → t < 7 → suits 7 t bytes ≡ true → (g k : ℕ) → g < forward_groups (suc t) → k < 2 * forward_len (suc t) →
    mask_after 7 Forward t bytes (g * (2 * forward_len (suc t)) + k) ≡ wide_mask bytes (forward_len (suc t)) g k
forward_incoming zero bytes l h g k a b = mask_none 7 Forward bytes _ ∙ sym (first_none bytes h _)
forward_incoming (suc t) bytes l h g k a b =
    let len : 2 ^ (8 - suc t) ≡ 2 * 2 ^ (8 - suc (suc t)) = double (8 - suc t) (8 - suc (suc t)) (omega arith) in
    let count : 2 ^ (suc (suc t) - 1) ≡ 2 * 2 ^ (suc t - 1) = double (suc (suc t) - 1) (suc t - 1) (omega arith) in
    wide_carried (forward_len (suc (suc t))) (forward_groups (suc t)) bytes (mask_after 7 Forward (suc t) bytes)
    (rw len at (carries_forward 7 (suc t) bytes (omega arith) l)) g k (rw count at a) b

pub forward_outgoing : (s : ℕ) (bytes : List ℕ) → 0 < s → s ≤ 7 → suits 7 s bytes ≡ true → (g o : ℕ) → g < forward_groups s → o < forward_len s →
    mask_after 7 Forward s bytes (g * (2 * forward_len s) + o) ≡ own_mask bytes (forward_len s) g o
forward_outgoing s bytes some l h g o a b = go (ℕ_discrete s 7)
  where
    go : Dec (s ≡ 7) → mask_after 7 Forward s bytes (g * (2 * forward_len s) + o) ≡ own_mask bytes (forward_len s) g o
    go (yes e) = rw e (mask_end 7 Forward bytes _ ∙ sym (last_none bytes (rw e at h) _))
    go (no e) = (carries_forward 7 s bytes some (omega arith)).low g o a b

-- of the inverse it is the other way round
pub inverse_incoming : (t : ℕ) (bytes : List ℕ) → t < 7 → suits 7 t bytes ≡ true → (g o : ℕ) → g < inverse_groups 7 (suc t) → o < inverse_len 7 (suc t) →
    mask_after 7 Inverse t bytes (g * (2 * inverse_len 7 (suc t)) + o) ≡ own_mask bytes (inverse_len 7 (suc t)) g o
inverse_incoming zero bytes l h g o a b = mask_none 7 Inverse bytes _ ∙ sym (first_none bytes h _)
inverse_incoming (suc t) bytes l h g o a b = (carries_inverse 7 (suc t) bytes (omega arith) l).low g o a b

pub inverse_outgoing : (s : ℕ) (bytes : List ℕ) → 0 < s → s ≤ 7 → suits 7 s bytes ≡ true → (g k : ℕ) → g < inverse_groups 7 s → k < 2 * inverse_len 7 s →
    mask_after 7 Inverse s bytes (g * (2 * inverse_len 7 s) + k) ≡ wide_mask bytes (inverse_len 7 s) g k
inverse_outgoing s bytes some l h g k a b = go (ℕ_discrete s 7)
  where
    go : Dec (s ≡ 7) → mask_after 7 Inverse s bytes (g * (2 * inverse_len 7 s) + k) ≡ wide_mask bytes (inverse_len 7 s) g k
    go (yes e) = rw e (mask_end 7 Inverse bytes _ ∙ sym (last_none bytes (rw e at h) _))
    go (no e) =
        let len : 2 ^ (suc s + 7 - 7) ≡ 2 * 2 ^ (s + 7 - 7) = double (suc s + 7 - 7) (s + 7 - 7) (omega arith) in
        let count : 2 ^ (7 - s) ≡ 2 * 2 ^ (7 - suc s) = double (7 - s) (7 - suc s) (omega arith) in
        wide_carried (inverse_len 7 s) (inverse_groups 7 (suc s)) bytes (mask_after 7 Inverse s bytes)
        (rw len at (carries_inverse 7 s bytes some (omega arith))) g k (rw count at a) b
