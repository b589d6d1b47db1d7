-- Words written one after another, and the registers' words among all words.
use Rattle.std.proofs.Common.{◌≡◌, ℕ, ◌+◌, ◌*◌, ◌<◌, ◌≤◌, false, eqb, ◌≢◌, ◌⊎◌, List, length, get_or, drop, set, sym, refl, ◌∙◌, subst, inl, inr, ⊎_elim, arith, length-drop, length-take, ap, take, ◌-◌}
use borrow.Rule.Slice.PartMut.{mid_of}
use Rattle.std.proofs.lemmas.List.{length-set, get_or-set_same, get_or-set_other, get_or-take, get_or-drop, same_lists}
use Rattle.std.proofs.lemmas.Bool.{cases_lt, cases_order, eqb-false}
use Rattle.histories.specs.Calls.{part}
use Rattle.registers.specs.Rows.{Only}

-- the n words from base on have been written, each with P, and the others are as they were
pub record Filled {W : Type 0} (base n : ℕ) (P : ℕ → W → Type 0) (ws ws' : List W) : Type 0 where
  pub size : length ws' ≡ length ws
  pub others : (j : ℕ) (d : W) → (j < base) ⊎ (base + n ≤ j) → get_or ws' j d ≡ get_or ws j d
  pub within : (k : ℕ) (d : W) → k < n → P k (get_or ws' (base + k) d)

pub filled_none : {W : Type 0} (base : ℕ) (P : ℕ → W → Type 0) (ws : List W) → Filled base 0 P ws ws
filled_none base P ws = record { size = refl; others = λ j d h. refl; within = λ k d h. absurd (omega arith) }

pub filled_more : {W : Type 0} (base n : ℕ) (P : ℕ → W → Type 0) (ws ws' : List W) (v : W) → base + n < length ws →
    Filled base n P ws ws' → P n v → Filled base (n + 1) P ws (set ws' (base + n) v)
filled_more {W} base n P ws ws' v room f p = record {
  size = length-set ws' (base + n) v ∙ f.size;
  others = λ j d h.
      let ne : j ≢ base + n = ⊎_elim (λ l e. omega arith) (λ l e. omega arith) h in
      get_or-set_other ws' (base + n) j v d ne ∙ f.others j d (⊎_elim (λ l. inl l) (λ l. inr (omega arith)) h);
  within = λ k d h. ⊎_elim
      (λ (l : k < n).
      let ne : base + k ≢ base + n = λ e. omega arith in
      subst (P k) (sym (get_or-set_other ws' (base + n) (base + k) v d ne)) (f.within k d l))
      (λ (l : n ≤ k).
      let e : n ≡ k = omega arith in
      let lt : base + n < length ws' = omega (arith, f.size) in
      subst (λ (i : ℕ). P i (get_or (set ws' (base + n) v) (base + i) d)) e (subst (P n) (sym (get_or-set_same ws' (base + n) v d lt)) p))
      (cases_lt k n);
}

pub filled_all : {W : Type 0} (base n m : ℕ) (P : ℕ → W → Type 0) (ws ws' : List W) → n ≡ m → Filled base n P ws ws' → Filled base m P ws ws'
filled_all base n m P ws ws' e f = subst (λ (i : ℕ). Filled base i P ws ws') e f

pub part_at : {W : Type 0} (ws : List W) (r k : ℕ) (d : W) → k < 256 → get_or (part ws r) k d ≡ get_or ws (256 * r + k) d
unfolding part
part_at ws r k d h = get_or-take 256 (drop (256 * r) ws) k d h ∙ get_or-drop (256 * r) ws k d

part_short : {W : Type 0} (ws : List W) (r : ℕ) → length (part ws r) ≤ 256
unfolding part
part_short ws r = simp (length-take) (omega arith)

part_same_size : {W : Type 0} (ws ws' : List W) (r : ℕ) → length ws' ≡ length ws → length (part ws' r) ≡ length (part ws r)
unfolding part
part_same_size ws ws' r h = simp (length-take, length-drop) (rw h refl)

apart : (i r k : ℕ) → eqb i r ≡ false → k < 256 → (256 * i + k < 256 * r) ⊎ (256 * r + 256 ≤ 256 * i + k)
apart i r k h l =
    ⊎_elim (λ e. absurd (eqb-false i r h e)) (λ o. ⊎_elim (λ (a : i < r). inl (omega arith)) (λ (a : r < i). inr (omega arith)) o) (cases_order i r)

-- the words of the other registers are as they were, where all words outside register d are
pub only_by : {W : Type 0} (d : ℕ) (ws ws' : List W) → length ws' ≡ length ws →
    ((j : ℕ) (e : W) → (j < 256 * d) ⊎ (256 * d + 256 ≤ j) → get_or ws' j e ≡ get_or ws j e) → Only d ws ws'
only_by d ws ws' size outside = record {
  size = size;
  others = λ r h.
      same_lists (part ws' r) (part ws r) (part_same_size ws ws' r size) (λ k e l.
      let s : k < 256 = omega (arith, part_short ws' r) in
      part_at ws' r k e s ∙ outside (256 * r + k) e (apart r d k h s) ∙ sym (part_at ws r k e s));
}

pub only_filled : {W : Type 0} (d : ℕ) (P : ℕ → W → Type 0) (ws ws' : List W) → Filled (256 * d) 256 P ws ws' → Only d ws ws'
only_filled d P ws ws' f = only_by d ws ws' f.size f.others

-- what was written, among the register's own words
pub part_within : {W : Type 0} (r : ℕ) (P : ℕ → W → Type 0) (ws ws' : List W) → Filled (256 * r) 256 P ws ws' → (k : ℕ) (d : W) → k < 256 → P k (get_or (part ws' r) k d)
part_within r P ws ws' f k d h = subst (P k) (sym (part_at ws' r k d h)) (f.within k d h)

pub width : (a : ℕ) → a + 256 - a ≡ 256
width a = omega arith

-- the part of register r, as the code lends it
pub lent_part : {W : Type 0} (ws : List W) (r : ℕ) → mid_of (256 * r) (256 * r + 256 - 256 * r) ws ≡ part ws r
unfolding part
lent_part ws r = ap (λ (n : ℕ). take n (drop (256 * r) ws)) (width (256 * r))
