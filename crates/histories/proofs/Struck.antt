-- A strike, on one register.
use Rattle.std.proofs.Common.{◌≡◌, ℕ, ◌<◌, Bool, true, false, List, length, sym, refl, ◌∙◌, subst}
use Rattle.guarded.specs.Model.{Guarded}
use Rattle.histories.specs.declared.register.Register.{Register}
use Rattle.histories.specs.Ledger.{Held, nothing, holds, Reach, unreached, reached, struck_reach}
use Rattle.histories.proofs.Local.{Bond, Local, bond_under}

abbrev pub IsHit : {W : Type 0} → Reach W → Type 0
IsHit unreached = ⊥
IsHit (reached w w') = Unit {0}

pub no_hit : {W : Type 0} {w w' : List W} → reached w w' ≡ unreached → ⊥
no_hit {W} e = subst (λ (R : Reach W). IsHit R) e tt

module _ {W : Type 0} (G : Guarded W) where
  strike_bond : (S S' : Type 0) → (S' → S) → (h : Held) (b : Bool) (R : Reach W) (e : List ℕ) (x : Register) (words found : List W) →
      (S' → b ≡ true → R ≡ unreached) → (b ≡ false → found ≡ words) → Bond G S h R e x words → Bond G S' h (struck_reach h b R words found) e x found
  strike_bond S S' u nothing b unreached e x words found once calm k = tt
  strike_bond S S' u nothing b (reached w w') e x words found once calm k = k
  strike_bond S S' u (holds f l) true unreached e x words found once calm k =
      λ s. record { frozen = λ _. refl; sound = λ g. g; there = λ g same. sym same ∙ k.check; back = λ g now. k.check ∙ sym now }
  strike_bond S S' u (holds f l) true (reached w w') e x words found once calm k = λ s. absurd (no_hit (once s refl))
  strike_bond S S' u (holds f l) false R e x words found once calm k =
      subst (λ z. Bond G S' (holds f l) R e x z) (sym (calm refl)) (bond_under G S S' u (holds f l) R e x words k)

  pub strike_local : (S S' : Type 0) → (S' → S) → (r : ℕ) (e : List ℕ) (h : Held) (b : Bool) (R : Reach W) (x : Register) (words found : List W) →
      (S' → b ≡ true → R ≡ unreached) → (b ≡ false → found ≡ words) → (r < 8 → length found ≡ 256) →
      Local G S r e h R x words → Local G S' r e h (struck_reach h b R words found) x found
  strike_local S S' u r e h b R x words found once calm size k =
      let c = k.common in
      record {
        common = record { size = size; inside = c.inside; fine = c.fine; layered = c.layered; below = c.below; below_b = c.below_b; single = c.single };
        bond = strike_bond S S' u h b R e x words found once calm k.bond;
      }
