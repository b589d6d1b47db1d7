-- Registers whose slots are the products of those of two registers.
use Rattle.std.proofs.Common.{◌≡◌, ℕ, pred, ◌+◌, ◌*◌, ◌%◌, ◌^◌, ◌<◌, ◌≤◌, Bool, true, List, map, length, get_or, set, sym, refl, ap, ◌∙◌, subst, arith}
use Rattle.algebra.specs.Congruence.{Same}
use Rattle.algebra.specs.Layers.{bitrev}
use Rattle.algebra.specs.Slots.{gamma}
use Rattle.algebra.specs.Product.{base_product}
use Rattle.algebra.specs.Polynomials.{coefficient}
use Rattle.algebra.proofs.Modular.{same_of, same_sym, ◌⨾◌}
use Rattle.algebra.proofs.Lists.{base_product_is}
use Rattle.algebra.proofs.Theorems.{products}
use Rattle.engine.specs.Slots.{SlotProduct}
use Rattle.engine.proofs.Slots.{gamma_by, other_root}
use Rattle.guarded.specs.Model.{Guarded, Lawful}
use Rattle.histories.specs.Operations.{slot_product_of}
use Rattle.histories.specs.Calls.{part, meanings, times}
use Rattle.histories.specs.Serves.{Meaning, combined}
use Rattle.histories.proofs.Basics.{part_size}
use Rattle.registers.proofs.Rows.{Filled, filled_more, filled_all, part_within}
use Rattle.registers.proofs.Meanings.{meaning_by}

-- the product of a slot, as the code computes it, is that of the transforms
module _ (m w n r c a0 a1 b0 b1 x y : ℕ) (f g : ℕ → ℕ) (low : n < 128) (cm : c < m) (er : r ≡ bitrev 7 n) (ec : c ≡ (w ^ (2 * r + 1)) % m)
    (p0 : a0 ≡ f (2 * n)) (p1 : a1 ≡ f (2 * n + 1)) (q0 : b0 ≡ g (2 * n)) (q1 : b1 ≡ g (2 * n + 1)) (t : SlotProduct (pred m) c a0 a1 b0 b1 x y) where
  even : n * 2 + 0 ≡ 2 * n
  even = omega arith

  odd : n * 2 + 1 ≡ 2 * n + 1
  odd = omega arith

  rooted : SlotProduct (pred m) (gamma 7 w n) a0 a1 b0 b1 x y
  rooted = other_root (pred m) c (gamma 7 w n) a0 a1 b0 b1 x y (gamma_by m w n r c cm er ec) t

  pub slot_low : Same (pred m) (base_product 7 w f g (2 * n)) x
  slot_low =
      same_of (ap (base_product 7 w f g) (sym even)) ⨾ (base_product_is 7 (pred m) w f g).at n 0 low (omega arith)
      ⨾ same_of (products.two_first (gamma 7 w n) (λ k. f (n * 2 + k)) (λ k. g (n * 2 + k)) ∙ rw (even, odd, p0, p1, q0, q1) refl) ⨾ same_sym rooted.first

  pub slot_high : Same (pred m) (base_product 7 w f g (2 * n + 1)) y
  slot_high =
      same_of (ap (base_product 7 w f g) (sym odd)) ⨾ (base_product_is 7 (pred m) w f g).at n 1 low (omega arith)
      ⨾ same_of (products.two_second (gamma 7 w n) (λ k. f (n * 2 + k)) (λ k. g (n * 2 + k)) ∙ rw (even, odd, p0, p1, q0, q1) refl) ⨾ same_sym rooted.second

-- the word at place k holds the number k of the product of the transforms f and g
pub record Multiplied {W : Type 0} (element : W → Bool) (meaning : W → ℕ) (m w : ℕ) (f g : ℕ → ℕ) (k : ℕ) (v : W) : Type 0 where
  pub stays : element v ≡ true
  pub means : Same (pred m) (base_product 7 w f g k) (meaning v)

-- one slot more
pub slot_more : {W : Type 0} (base n : ℕ) (P : ℕ → W → Type 0) (ws ws' : List W) (x y : W) → base + 256 ≤ length ws → n < 128 → Filled base (2 * n) P ws ws' →
    P (2 * n) x → P (2 * n + 1) y → Filled base (2 * (n + 1)) P ws (set (set ws' (base + 2 * n) x) (base + (2 * n + 1)) y)
slot_more base n P ws ws' x y room l f px py =
    filled_all base (2 * n + 1 + 1) (2 * (n + 1)) P ws _ (omega arith)
    (filled_more base (2 * n + 1) P ws _ y (omega arith) (filled_more base (2 * n) P ws ws' x (omega arith) f px) py)

module _ {W : Type 0} (G : Guarded W) (law : Lawful G) (ws ws' : List W) (d a b : ℕ) (size : length ws ≡ 2048) (kd : d < 8) where
  abbrev at : (r k : ℕ) → ℕ
  at r k = coefficient (map G.meaning (part ws r)) k

  pub slot_products : (m : ℕ) → m ≡ 3329 * G.p → Filled (256 * d) 256 (Multiplied G.element G.meaning m G.w (at a) (at b)) ws ws' →
      Meaning G (combined (meanings G) times (map G.meaning (part ws a)) (map G.meaning (part ws b))) (part ws' d)
  unfolding slot_product_of
  slot_products m joint f =
      let here = part_within d (Multiplied G.element G.meaning m G.w (at a) (at b)) ws ws' f in
      meaning_by G law (base_product 7 G.w (at a) (at b)) (part ws' d) (part_size ws' (f.size ∙ size) d kd) (λ k e l. (here k e l).stays)
      (λ k e l. subst (λ (n : ℕ). Same (pred n) (base_product 7 G.w (at a) (at b) k) (G.meaning (get_or (part ws' d) k e))) joint (here k e l).means)
