use Rattle.std.proofs.Common.{◌≡◌, ◌<◌, ◌≤◌, Bool, true, false, List, ℕ, length, MatchBool, sym, subst, rules, tests, arith}
use Rattle.std.specs.List.{HoldsAt, AllWithin}
use Rattle.std.proofs.lemmas.Iterator.{cases_from_all, YieldsList-from_slice}
use Rattle.algebra.specs.Polynomials.{Polynomial}
use Rattle.decrypt.proofs.arithmetic.polynomial.Goals as goal

low : (r : Bool) (w : List ℕ) → MatchBool r (AllWithin (λ x. x < 3329) w 0 (length w)) ((k : ℕ) × (k < length w) × HoldsAt (λ x. 3329 ≤ x) w k) → r ≡ true → length w ≡ 256 → Polynomial 3328 w
low true w h e n = record { size = n; small = λ j l. h j 0 (omega arith) (omega arith) }
low false w h e n = absurd (cc)

high : (r : Bool) (w : List ℕ) → MatchBool r (AllWithin (λ x. x < 3329) w 0 (length w)) ((k : ℕ) × (k < length w) × HoldsAt (λ x. 3329 ≤ x) w k) → r ≡ false → Polynomial 3328 w → ⊥
high true w h e P = absurd (cc)
high false w h e P = omega (arith, P.size, P.small h.0 (omega (arith, P.size, h.1)), h.2 0)

pub returns-then-all : goal.returns-then-all
returns-then-all c =
    let w = c.in-Ok.w in
    let chunk = c.in-Ok.ensures.1 in
    let by_call = cases_from_all _ _ _ (λ x. x < 3329) (λ x. 3329 ≤ x) c.all.ensures.ran (YieldsList-from_slice w cc) (λ x q k. search (rules, tests)) (λ x q k. search (rules, tests)) in
    let size : length w ≡ 256 = rw chunk.same chunk.long in
    (subst (Polynomial 3328) chunk.same (low _ w by_call c.if-all.true size), chunk.same)

pub returns-else-all : goal.returns-else-all
returns-else-all c = λ P.
    let w = c.in-Ok.w in
    let chunk = c.in-Ok.ensures.1 in
    let by_call = cases_from_all _ _ _ (λ x. x < 3329) (λ x. 3329 ≤ x) c.all.ensures.ran (YieldsList-from_slice w cc) (λ x q k. search (rules, tests)) (λ x q k. search (rules, tests)) in
    high _ w by_call c.if-all.false (subst (Polynomial 3328) (sym chunk.same) P)
