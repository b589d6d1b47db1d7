-- The words of a register, tested one after another, and read while others are written.
use Rattle.std.proofs.Common.{◌≡◌, ℕ, suc, ◌+◌, ◌*◌, ◌<◌, ◌≤◌, Bool, true, min, List, [], ◌∷◌, length, get_or, sym, refl, ap, ◌∙◌, inl, inr, ⊎_elim, arith}
use mathlib.Core.Option.{none}
use Rattle.std.specs.List.{zip}
use Rattle.std.proofs.lemmas.Slice.Zip.{length-zip, get_or-zip}
use Rattle.std.proofs.lemmas.List.{get_or_default}
use Rattle.std.proofs.lemmas.Bool.{cases_lt}
use Rattle.rings.specs.Refusals.{flaw}
use Rattle.rings.proofs.Flaws.{at_none}
use Rattle.histories.specs.Calls.{part}
use Rattle.histories.proofs.Basics.{part_size}
use Rattle.registers.proofs.Rows.{Filled, part_at}

-- a list with no flaw, from what holds at any default
pub no_flaw : {A : Type 0} (t : A → Bool) (xs : List A) → ((k : ℕ) (d : A) → k < length xs → t (get_or xs k d) ≡ true) → flaw t xs ≡ none
no_flaw t [] b = refl
no_flaw t (x ∷ xs) b = rw (b 0 x (omega arith), no_flaw t xs (λ k d l. b (suc k) d (omega arith)))

-- a word at its place beside a number, where all words are elements
pub pair_sound : {W : Type 0} (t : W → Bool) (xs : List W) (ys : List ℕ) (k : ℕ) (p : W × ℕ) → flaw t xs ≡ none → k < length (zip xs ys) →
    p ≡ get_or (zip xs ys) k p → t p.0 ≡ true
pair_sound t xs ys k p h l e =
    let short : k < min (length xs) (length ys) = rw length-zip at l in
    let at : k < length xs = omega arith in
    ap (λ q. t q.0) (e ∙ get_or-zip xs ys k p at (omega arith)) ∙ at_none t xs h k p.0 at

module _ {W : Type 0} (t : W → Bool) (ws : List W) (r : ℕ) (size : length ws ≡ 2048) (known : r < 8) where
  pub sound_at : flaw t (part ws r) ≡ none → (k : ℕ) (d : W) → k < 256 → t (get_or ws (256 * r + k) d) ≡ true
  sound_at h k d l = ap t (sym (part_at ws r k d l)) ∙ at_none t (part ws r) h k d (omega (arith, part_size ws size r known))

-- a word that is read while the words of d before place n are written, at n or later, is the old one
pub old_read : {W : Type 0} (a d n k : ℕ) (P : ℕ → W → Type 0) (ws ws' : List W) (x e : W) → Filled (256 * d) n P ws ws' → n ≤ k → k < 256 →
    256 * a + k < length ws → x ≡ get_or ws' (256 * a + k) x → x ≡ get_or ws (256 * a + k) e
old_read a d n k P ws ws' x e f o h l r =
    r ∙ get_or_default ws' (256 * a + k) x e (omega (arith, f.size))
    ∙ f.others (256 * a + k) e (⊎_elim (λ (u : a < d). inl (omega arith)) (λ (u : d ≤ a). inr (omega arith)) (cases_lt a d))

pub old_sound : {W : Type 0} (t : W → Bool) (a d n k : ℕ) (P : ℕ → W → Type 0) (ws ws' : List W) (x : W) → Filled (256 * d) n P ws ws' → n ≤ k → k < 256 →
    length ws ≡ 2048 → a < 8 → flaw t (part ws a) ≡ none → x ≡ get_or ws' (256 * a + k) x → t x ≡ true
old_sound t a d n k P ws ws' x f o h size low s r = ap t (old_read a d n k P ws ws' x x f o h (omega arith) r) ∙ sound_at t ws a size low s k x h
