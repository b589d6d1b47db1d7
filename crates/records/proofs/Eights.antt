-- A test over the eight registers.
use Rattle.std.proofs.Common.{◌≡◌, ℕ, ◌<◌, Bool, true, false, cond, not, nat_lt, List, length, get_or, sym, refl, ap, ◌∙◌, zero-add, arith}
use Rattle.std.specs.Prelude.{Some, None}
use Rattle.std.specs.List.{position, position_or_len}
use mathlib.Core.Option.{none, some}
use Rattle.std.proofs.lemmas.List.Quantifiers.{position-Some}
use Rattle.std.proofs.lemmas.Bool.{or_from, or_left, or_right, ne_eqb, true≢false, not_from_true, not_from_false}
use Rattle.std.proofs.lemmas.List.FromFn.{get_or-range_with_len}
use Rattle.rings.specs.Refusals.{flaw}
use Rattle.rings.proofs.Flaws.{flaw_at, flaw_past, at_none, flaw_position}
use Rattle.histories.specs.declared.register.Register.{Register}
use Rattle.histories.specs.Forms.{in_work}
use Rattle.histories.specs.Calls.{eight, free, empty_record}
use Rattle.records.specs.Rows.{rows}

eight_at : (j : ℕ) → j < 8 → get_or eight j 0 ≡ j
unfolding eight
eight_at j h = get_or-range_with_len 0 8 j 0 h ∙ zero-add j

length_eight : length eight ≡ 8
unfolding eight
length_eight = refl

pub first_of_eight : (t : ℕ → Bool) (k : ℕ) → k < 8 → ((j : ℕ) → j < k → t j ≡ true) → t k ≡ false → flaw t eight ≡ some k
first_of_eight t k h b e =
    flaw_at t eight k 0 (omega (arith, length_eight)) (λ j l. ap t (eight_at j (omega arith)) ∙ b j l) (ap t (eight_at k h) ∙ e)

pub none_of_eight : (t : ℕ → Bool) → ((j : ℕ) → j < 8 → t j ≡ true) → flaw t eight ≡ none
none_of_eight t b = flaw_past t eight 0 (λ j l. let o : j < 8 = omega (arith, length_eight) in ap t (eight_at j o) ∙ b j o)

pub each_of_eight : (t : ℕ → Bool) → flaw t eight ≡ none → (j : ℕ) → j < 8 → t j ≡ true
each_of_eight t h j l = ap t (sym (eight_at j l)) ∙ at_none t eight h j 0 (omega (arith, length_eight))

-- which register hinders a layer of r: none where r is in work, else the first one that is
abbrev pub working : Register → Bool
working x = in_work x.form

pub none_hinders_work : (S : ℕ → Register) (r : ℕ) → in_work (S r).form ≡ true → flaw (free S r) eight ≡ none
none_hinders_work S r h = none_of_eight (free S r) (λ j l. or_left _ _ h)

-- what `position` passes over
low : (o : Bool) (i : ℕ) → cond o (Some i) None ≡ None → cond o (some i) none ≡ none
low true i h = cc
low false i h = refl

unworked : (rs : List Register) → position working rs ≡ None → flaw (λ x. not (working x)) rs ≡ none
unworked rs h = flaw_position (λ x. not (working x)) working (λ x. refl) rs ∙ low (nat_lt (position_or_len working rs) (length rs)) (position_or_len working rs) h

pub none_hinders : (rs : List Register) (r : ℕ) → length rs ≡ 8 → position working rs ≡ None → flaw (free (rows rs) r) eight ≡ none
none_hinders rs r size h =
    none_of_eight (free (rows rs) r) (λ j l. or_right _ _ (or_right _ _ (at_none (λ x. not (working x)) rs (unworked rs h) j empty_record (omega (arith, size)))))

pub first_hinders : (rs : List Register) (r i : ℕ) → length rs ≡ 8 → in_work (rows rs r).form ≡ false → position working rs ≡ Some i →
    flaw (free (rows rs) r) eight ≡ some i
first_hinders rs r i size idle h =
    let found = position-Some working rs i empty_record h in
    let other : i ≡ r → ⊥ = λ e. true≢false (sym found.1 ∙ ap (λ k. in_work (rows rs k).form) e ∙ idle) in
    first_of_eight (free (rows rs) r) i (omega (arith, size))
    (λ j l. or_right _ _ (or_right _ _ (not_from_false _ (found.2 j l))))
    (or_from _ _ idle (or_from _ _ (ne_eqb i r other) (not_from_true _ found.1)))
