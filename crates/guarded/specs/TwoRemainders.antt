-- Numbers by their remainders by 3329 and p, for the two check moduli.
use Rattle.std.specs.Prelude.{◌≡◌, ℕ, ◌+◌, ◌-◌, ◌*◌, ◌%◌, ◌^◌, ◌<◌, true, ◌&&◌, nat_lt}
use Rattle.std.proofs.Common.{sym, ap, ap₂, ◌∙◌, arith, mul_comm, mod-lt, lit<}
use Rattle.std.proofs.lemmas.Bool.{lt-ltb, and_from}
use Rattle.algebra.proofs.Remainders.{pow_mod, joined_below, joined_plain, joined_guard, joined_of, at_sum, at_product, at_less}
use Rattle.rings.specs.Moduli.{plain_root}
use Rattle.guarded.specs.Moduli.{is_check, check_inverse, joint_root, lifted}
use Rattle.guarded.specs.ModuliLemmas.{known_above, known_inverts, known_coefficient, known_check}

module _ (p : ℕ) (h : is_check p ≡ true) where
  abbrev pub both : ℕ → ℕ → ℕ
  both s c = lifted p s c

  above : 3329 < p
  above = known_above p h

  pub both_below : (s c : ℕ) → s < 3329 → both s c < 3329 * p
  both_below s c k = let a : 3329 < p = above in joined_below 3329 p (check_inverse p) s c k (omega arith)

  pub both_plain : (s c : ℕ) → s < 3329 → both s c % 3329 ≡ s
  both_plain s c k = joined_plain 3329 p (check_inverse p) s c k

  pub both_guard : (s c : ℕ) → s < 3329 → c < p → both s c % p ≡ c
  both_guard s c k l =
      let a : 3329 < p = above in
      joined_guard 3329 p (check_inverse p) s c (omega arith) (omega arith) l (known_inverts p h)

  pub both_of : (x s c : ℕ) → s ≡ x % 3329 → c ≡ x % p → both s c ≡ x % (3329 * p)
  both_of x s c e f =
      let a : 3329 < p = above in
      ap₂ (λ (y z : ℕ). both y z) e f ∙ joined_of 3329 p (check_inverse p) x (omega arith) (lit< tt) (known_inverts p h)

  pub both_stays : (x y s c : ℕ) → s ≡ x % 3329 → c ≡ y % p → (nat_lt s 3329 && nat_lt c p) ≡ true
  both_stays x y s c e f =
      let a : 3329 < p = above in
      let low : s < 3329 = rw e (mod-lt x (lit< tt)) in
      let under : c < p = rw f (mod-lt y (omega arith)) in
      and_from (nat_lt s 3329) (nat_lt c p) (lt-ltb s 3329 low) (lt-ltb c p under)

  module _ (s c s' c' r u : ℕ) (k : s < 3329) (l : c < p) (k' : s' < 3329) (l' : c' < p) where
    pub both_sum : r ≡ (s + s') % 3329 → u ≡ (c + c') % p → both r u ≡ (both s c + both s' c') % (3329 * p)
    both_sum e f =
        both_of (both s c + both s' c') r u
        (e ∙ at_sum 3329 (both s c) (both s' c') s s' (both_plain s c k) (both_plain s' c' k'))
        (f ∙ at_sum p (both s c) (both s' c') c c' (both_guard s c k l) (both_guard s' c' k' l'))

    pub both_product : r ≡ (s * s') % 3329 → u ≡ (c * c') % p → both r u ≡ (both s c * both s' c') % (3329 * p)
    both_product e f =
        both_of (both s c * both s' c') r u
        (e ∙ at_product 3329 (both s c) (both s' c') s s' (both_plain s c k) (both_plain s' c' k'))
        (f ∙ at_product p (both s c) (both s' c') c c' (both_guard s c k l) (both_guard s' c' k' l'))

    pub both_less : r ≡ (s + (3329 - s')) % 3329 → u ≡ (c + (p - c')) % p → both r u ≡ (both s c + (3329 * p - both s' c')) % (3329 * p)
    both_less e f =
        let a : 3329 < p = above in
        let low : both s' c' < 3329 * p = both_below s' c' k' in
        both_of (both s c + (3329 * p - both s' c')) r u
        (e ∙ at_less 3329 (both s c) (both s' c') s s' (both_plain s c k) (both_plain s' c' k') p (lit< tt) low)
        (f
        ∙ at_less p (both s c) (both s' c') c c' (both_guard s c k l) (both_guard s' c' k' l') 3329 (omega arith) (rw (mul_comm p 3329) low)
        ∙ ap (λ (x : ℕ). (both s c + (x - both s' c')) % p) (mul_comm p 3329))

  pub both_power : (e r u : ℕ) → r ≡ (17 ^ e) % 3329 → u ≡ (plain_root p ^ e) % p → both r u ≡ (joint_root p ^ e) % (3329 * p)
  both_power e r u f g =
      both_of (joint_root p ^ e) r u
      (f ∙ ap (λ (x : ℕ). (x ^ e) % 3329) (sym (known_coefficient p h)) ∙ sym (pow_mod (joint_root p) 3329 e))
      (g ∙ ap (λ (x : ℕ). (x ^ e) % p) (sym (known_check p h)) ∙ sym (pow_mod (joint_root p) p e))
