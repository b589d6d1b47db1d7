-- From the answers of the ring to the masked butterflies.
use Rattle.std.proofs.Common.{◌≡◌, ℕ, zero, suc, pred, ◌+◌, ◌-◌, ◌*◌, ◌%◌, ◌^◌, ◌<◌, ◌≤◌, ap, ◌∙◌, mod-lt, arith}
use Rattle.algebra.specs.Congruence.{Same}
use Rattle.algebra.specs.Masks.{mask_difference, MaskedForward, MaskedInverse}
use Rattle.algebra.proofs.Modular.{same_of, same_mod, same_sub, same_add, same_mul_left, same_mul_right, ◌⨾◌}

pub difference_by : (d e : ℕ) → e < 256 → (d + (256 - e)) % 256 ≡ mask_difference 7 d e
unfolding mask_difference
difference_by d e h = omega arith

pub difference_by_two : (z d e : ℕ) → e < 256 → ((z + d) % 256 + (256 - e)) % 256 ≡ mask_difference 7 (z + d) e
unfolding mask_difference
difference_by_two z d e h = omega arith

-- a power times a number
pub scaled : {neg : ℕ} (w k f a x : ℕ) → f ≡ (w ^ k) % suc neg → x ≡ (f * a) % suc neg → Same neg x (w ^ k * a)
scaled {neg} w k f a x ef ex = same_of ex ⨾ same_mod (f * a) ⨾ same_mul_right a (same_of ef ⨾ same_mod (w ^ k))

pub summed : {neg : ℕ} (x y u v s : ℕ) → s ≡ (x + y) % suc neg → Same neg x u → Same neg y v → Same neg s (u + v)
summed x y u v s es hx hy = same_of es ⨾ same_mod (x + y) ⨾ same_add hx hy

pub reduced : {neg : ℕ} (x y u v s : ℕ) → y ≤ suc neg → s ≡ (x + (suc neg - y)) % suc neg → Same neg x u → Same neg y v → Same neg s (u + neg * v)
reduced {neg} x y u v s h es hx hy = same_of es ⨾ same_mod (x + (suc neg - y)) ⨾ same_sub x y h ⨾ same_add hx (same_mul_left neg hy)

pub forward_numbers : (m w z e1 e2 e3 a b f1 f2 x y s t : ℕ) → a < m → e1 < 256 → e2 < 256 →
    f1 ≡ (w ^ ((e3 + (256 - e1)) % 256)) % m → f2 ≡ (w ^ (((z + e3) % 256 + (256 - e2)) % 256)) % m →
    x ≡ (f1 * a) % m → y ≡ (f2 * b) % m → s ≡ (x + y) % m → t ≡ (x + (m - y)) % m → MaskedForward 7 (pred m) w z e1 e2 e3 a b s t
forward_numbers zero w z e1 e2 e3 a b f1 f2 x y s t some h1 h2 ef1 ef2 ex ey es et = absurd (omega arith)
forward_numbers (suc neg) w z e1 e2 e3 a b f1 f2 x y s t some h1 h2 ef1 ef2 ex ey es et =
    let hx : Same neg x (w ^ mask_difference 7 e3 e1 * a) = scaled w (mask_difference 7 e3 e1) f1 a x (ef1 ∙ ap (λ (k : ℕ). (w ^ k) % suc neg) (difference_by e3 e1 h1)) ex in
    let hy : Same neg y (w ^ mask_difference 7 (z + e3) e2 * b) = scaled w (mask_difference 7 (z + e3) e2) f2 b y (ef2 ∙ ap (λ (k : ℕ). (w ^ k) % suc neg) (difference_by_two z e3 e2 h2)) ey in
    let low : y < suc neg = rw ey (mod-lt (f2 * b) (omega arith)) in
    record { low = summed x y _ _ s es hx hy; high = reduced x y _ _ t (omega arith) et hx hy }

multiplied : {neg : ℕ} (w k f a x y : ℕ) → f ≡ (w ^ k) % suc neg → Same neg x y → a ≡ (f * x) % suc neg → Same neg a (w ^ k * y)
multiplied {neg} w k f a x y ef h ea = scaled w k f x a ef ea ⨾ same_mul_left (w ^ k) h

pub inverse_numbers : (m w z e o1 o2 a b f1 f2 x y s t : ℕ) → a < m → e < 256 →
    f1 ≡ (w ^ ((o1 + (256 - e)) % 256)) % m → f2 ≡ (w ^ (((z + o2) % 256 + (256 - e)) % 256)) % m →
    x ≡ (a + b) % m → y ≡ (b + (m - a)) % m → s ≡ (f1 * x) % m → t ≡ (f2 * y) % m → MaskedInverse 7 (pred m) w 1 z e o1 o2 a b s t
inverse_numbers zero w z e o1 o2 a b f1 f2 x y s t some h ef1 ef2 ex ey es et = absurd (omega arith)
inverse_numbers (suc neg) w z e o1 o2 a b f1 f2 x y s t some h ef1 ef2 ex ey es et =
    let hx : Same neg x (a + b) = same_of ex ⨾ same_mod (a + b) in
    let hy : Same neg y (b + neg * a) = same_of ey ⨾ same_mod (b + (suc neg - a)) ⨾ same_sub b a (omega arith) in
    record {
      low = multiplied w (mask_difference 7 o1 e) f1 s x (a + b) (ef1 ∙ ap (λ (k : ℕ). (w ^ k) % suc neg) (difference_by o1 e h)) hx es ⨾ same_of (omega arith);
      high = multiplied w (mask_difference 7 (z + o2) e) f2 t y (b + neg * a) (ef2 ∙ ap (λ (k : ℕ). (w ^ k) % suc neg) (difference_by_two z o2 e h)) hy et ⨾ same_of (omega arith);
    }

-- the same butterfly, its exponents written another way
pub forward_under : (neg w z z' e1 e2 e3 d1 d2 d3 a b a' b' : ℕ) → z ≡ z' → e1 ≡ d1 → e2 ≡ d2 → e3 ≡ d3 →
    MaskedForward 7 neg w z e1 e2 e3 a b a' b' → MaskedForward 7 neg w z' d1 d2 d3 a b a' b'
forward_under neg w z z' e1 e2 e3 d1 d2 d3 a b a' b' ez p q r m = rw (ez, p, q, r) at m

pub inverse_under : (neg w z z' e o1 o2 d1 d2 d3 a b a' b' : ℕ) → z ≡ z' → e ≡ d1 → o1 ≡ d2 → o2 ≡ d3 →
    MaskedInverse 7 neg w 1 z e o1 o2 a b a' b' → MaskedInverse 7 neg w 1 z' d1 d2 d3 a b a' b'
inverse_under neg w z z' e o1 o2 d1 d2 d3 a b a' b' ez p q r m = rw (ez, p, q, r) at m

-- and its factor
pub with_factor : {neg w c c' z e o1 o2 a b a' b' : ℕ} → c ≡ c' → MaskedInverse 7 neg w c z e o1 o2 a b a' b' → MaskedInverse 7 neg w c' z e o1 o2 a b a' b'
with_factor h m = rw h at m
