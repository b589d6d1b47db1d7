-- Complaints, tests over lists, and a function changed at one place.
use Rattle.std.proofs.Common.{◌≡◌, ℕ, zero, suc, pred, ◌%◌, ◌<◌, Bool, true, false, cond, ◌&&◌, eqb, List, [], ◌∷◌, map, length, get_or, sym, refl, ◌∙◌, subst, mod-lt, arith, length-drop, length-take}
use mathlib.Core.Option.{Option, none, some}
use lib.ListN.{length-map}
use Rattle.std.proofs.lemmas.List.{get_or-map}
use Rattle.algebra.specs.Polynomials.{Polynomial}
use Rattle.std.proofs.lemmas.Bool.{and_parts, and_from, eqb-true, eq-eqb}
use Rattle.rings.specs.Refusals.{Check, test, scan, first, Passes, next, flaw}
use Rattle.histories.specs.Operations.{Base, neg, Good, remainders}
use Rattle.histories.specs.Calls.{part, differ, eight}
use Rattle.histories.specs.Serves.{put}

-- every element of a list passes a test
abbrev pub every : {A : Type 0} → (A → Bool) → List A → Bool
every t [] = true
every t (x ∷ xs) = t x && every t xs

abbrev pub IsSome : {A : Type 0} → Option A → Type 0
IsSome none = ⊥
IsSome (some x) = Unit {0}

pub no_some : {A : Type 0} {x : A} → some x ≡ none → ⊥
no_some {A} e = subst (λ (o : Option A). IsSome o) e tt

pub passes : {A : Type 0} (cs : List (Check A)) → first cs ≡ none → Passes cs
passes [] h = tt
passes (test true x ∷ cs) h = (refl, passes cs h)
passes (test false x ∷ cs) h = absurd (no_some h)
passes (scan none f ∷ cs) h = (refl, passes cs h)
passes (scan (some k) f ∷ cs) h = absurd (no_some h)

-- what holds of every complaint that the checks can make
abbrev pub Sounds : {A : Type 0} → (A → Type 0) → List (Check A) → Type 0
Sounds P [] = Unit {0}
Sounds P (test b x ∷ cs) = P x × (b ≡ true → Sounds P cs)
Sounds P (scan o f ∷ cs) = ((k : ℕ) → o ≡ some k → P (f k)) × Sounds P cs

pub sound_first : {A : Type 0} (P : A → Type 0) (cs : List (Check A)) → Sounds P cs → (x : A) → first cs ≡ some x → P x
sound_first P [] h x e = absurd (no_some (sym e))
sound_first P (test true y ∷ cs) h x e = sound_first P cs (h.1 refl) x e
sound_first P (test false y ∷ cs) h x e = let k : y ≡ x = cc in subst P k h.0
sound_first P (scan none f ∷ cs) h x e = sound_first P cs h.1 x e
sound_first P (scan (some j) f ∷ cs) h x e = let k : f j ≡ x = cc in subst P k (h.0 j refl)

next_none : (o : Option ℕ) → next o ≡ none → o ≡ none
next_none none h = refl
next_none (some k) h = absurd (no_some h)

pub flaw_none : {A : Type 0} (t : A → Bool) (xs : List A) → flaw t xs ≡ none → every t xs ≡ true
flaw_none t [] h = refl
flaw_none t (x ∷ xs) h = go (flaw_none t xs) (t x) refl h
  where
    go : (flaw t xs ≡ none → every t xs ≡ true) → (b : Bool) → t x ≡ b → cond b (next (flaw t xs)) (some 0) ≡ none → (t x && every t xs) ≡ true
    go ih true e k = and_from (t x) (every t xs) e (ih (next_none (flaw t xs) k))
    go ih false e k = absurd (no_some k)

pub flaw_below : {A : Type 0} (t : A → Bool) (xs : List A) (k : ℕ) → flaw t xs ≡ some k → k < length xs
flaw_below t [] k h = absurd (no_some (sym h))
flaw_below t (x ∷ xs) k h = go (flaw_below t xs) (t x) (flaw t xs) refl h
  where
    go : ((k : ℕ) → flaw t xs ≡ some k → k < length xs) → (b : Bool) (o : Option ℕ) → flaw t xs ≡ o → cond b (next o) (some 0) ≡ some k → k < suc (length xs)
    go ih true none e g = absurd (no_some (sym g))
    go ih true (some j) e g = let q : suc j ≡ k = cc in omega (arith, ih j e)
    go ih false o e g = let q : ◌≡◌ {A = ℕ} 0 k = cc in omega arith

pub part_size : {W : Type 0} (ws : List W) → length ws ≡ 2048 → (r : ℕ) → r < 8 → length (part ws r) ≡ 256
unfolding part
part_size ws h r k = simp (length-take, length-drop) (omega arith)

pub every_flaw : {A : Type 0} (t : A → Bool) (xs : List A) → every t xs ≡ true → flaw t xs ≡ none
every_flaw t [] h = refl
every_flaw t (x ∷ xs) h = rw ((and_parts (t x) (every t xs) h).0, every_flaw t xs (and_parts (t x) (every t xs) h).1)

pub differ_refl : (xs : List ℕ) → differ xs xs ≡ none
differ_refl [] = refl
differ_refl (x ∷ xs) = rw (eq-eqb x x refl, differ_refl xs)

pub differ_none : (xs ys : List ℕ) → differ xs ys ≡ none → xs ≡ ys
differ_none [] [] h = refl
differ_none [] (y ∷ ys) h = absurd (no_some h)
differ_none (x ∷ xs) [] h = absurd (no_some h)
differ_none (x ∷ xs) (y ∷ ys) h = go (differ_none xs ys) (eqb x y) refl h
  where
    go : (differ xs ys ≡ none → xs ≡ ys) → (b : Bool) → eqb x y ≡ b → cond b (next (differ xs ys)) (some 0) ≡ none → (x ∷ xs) ≡ (y ∷ ys)
    go ih true e k = let q = eqb-true x y e in let r = ih (next_none (differ xs ys) k) in cc
    go ih false e k = absurd (no_some k)

pub below_pred : (m x : ℕ) → x < m → x < suc (pred m)
below_pred zero x h = absurd (omega arith)
below_pred (suc m) x h = h

-- a list of 256 under a map
pub map_polynomial : {A : Type 0} (neg : ℕ) (f : A → ℕ) (xs : List A) → length xs ≡ 256 → ((k : ℕ) (d : A) → k < length xs → f (get_or xs k d) < suc neg) → Polynomial neg (map f xs)
map_polynomial neg f [] h low = absurd (omega arith)
map_polynomial neg f (x ∷ xs) h low =
    record {
      size = length-map (x ∷ xs) f ∙ h;
      small = λ j k. rw (get_or-map f (x ∷ xs) j x 0 (omega arith)) (low j x (omega arith));
    }

pub remainders_good : (B : Base) → 0 < B.modulus → (xs : List ℕ) → length xs ≡ 256 → Good B (remainders B xs)
remainders_good B h xs e =
    map_polynomial (neg B) (λ x. x % B.modulus) xs e (λ k d l. below_pred B.modulus _ (mod-lt (get_or xs k d) h))

pub every_at : {A : Type 0} (t : A → Bool) (xs : List A) → every t xs ≡ true → (k : ℕ) (d : A) → k < length xs → t (get_or xs k d) ≡ true
every_at t [] h k d l = absurd (omega arith)
every_at t (x ∷ xs) h zero d l = (and_parts (t x) (every t xs) h).0
every_at t (x ∷ xs) h (suc k) d l = every_at t xs (and_parts (t x) (every t xs) h).1 k d (omega arith)

-- what holds of the eight registers
pub pick : (t : ℕ → Bool) → every t eight ≡ true → (r : ℕ) → r < 8 → t r ≡ true
unfolding eight
pick t h r k = go r k (parts t h)
  where
    parts : (t : ℕ → Bool) → every t eight ≡ true → (t 0 ≡ true) × (t 1 ≡ true) × (t 2 ≡ true) × (t 3 ≡ true) × (t 4 ≡ true) × (t 5 ≡ true) × (t 6 ≡ true) × (t 7 ≡ true)
    parts t h =
        let h0 = and_parts _ _ h in
        let h1 = and_parts _ _ h0.1 in
        let h2 = and_parts _ _ h1.1 in
        let h3 = and_parts _ _ h2.1 in
        let h4 = and_parts _ _ h3.1 in
        let h5 = and_parts _ _ h4.1 in
        let h6 = and_parts _ _ h5.1 in
        let h7 = and_parts _ _ h6.1 in
        (h0.0, h1.0, h2.0, h3.0, h4.0, h5.0, h6.0, h7.0)

    go : (r : ℕ) → r < 8 → (t 0 ≡ true) × (t 1 ≡ true) × (t 2 ≡ true) × (t 3 ≡ true) × (t 4 ≡ true) × (t 5 ≡ true) × (t 6 ≡ true) × (t 7 ≡ true) → t r ≡ true
    go zero k a = a.0
    go (suc zero) k a = a.1
    go (suc (suc zero)) k a = a.2
    go (suc (suc (suc zero))) k a = a.3
    go (suc (suc (suc (suc zero)))) k a = a.4
    go (suc (suc (suc (suc (suc zero))))) k a = a.5
    go (suc (suc (suc (suc (suc (suc zero)))))) k a = a.6
    go (suc (suc (suc (suc (suc (suc (suc zero))))))) k a = a.7
    go (suc (suc (suc (suc (suc (suc (suc (suc n)))))))) k a = absurd (omega arith)

-- a place, and the others
pub split : (Q : ℕ → Type 0) (d : ℕ) → Q d → ((r : ℕ) → eqb r d ≡ false → Q r) → (r : ℕ) → Q r
split Q d here there r = go (eqb r d) refl
  where
    go : (b : Bool) → eqb r d ≡ b → Q r
    go true e = subst Q (sym (eqb-true r d e)) here
    go false e = there r e

pub frame1 : {A : Type 0} (P : ℕ → A → Type 0) (d : ℕ) (x : A) (f : ℕ → A) → P d x → ((r : ℕ) → eqb r d ≡ false → P r (f r)) → (r : ℕ) → P r (put d x f r)
frame1 {A} P d x f here there r = go (eqb r d) refl
  where
    go : (b : Bool) → eqb r d ≡ b → P r (cond b x (f r))
    go true e = subst (λ k. P k x) (sym (eqb-true r d e)) here
    go false e = there r e

pub frame2 : {A B : Type 0} (P : ℕ → A → B → Type 0) (d : ℕ) (x : A) (y : B) (f : ℕ → A) (g : ℕ → B) → P d x y →
    ((r : ℕ) → eqb r d ≡ false → P r (f r) (g r)) → (r : ℕ) → P r (put d x f r) (put d y g r)
frame2 {A} {B} P d x y f g here there r = go (eqb r d) refl
  where
    go : (b : Bool) → eqb r d ≡ b → P r (cond b x (f r)) (cond b y (g r))
    go true e = subst (λ k. P k x y) (sym (eqb-true r d e)) here
    go false e = there r e

pub frame3 : {A B C : Type 0} (P : ℕ → A → B → C → Type 0) (d : ℕ) (x : A) (y : B) (z : C) (f : ℕ → A) (g : ℕ → B) (h : ℕ → C) → P d x y z →
    ((r : ℕ) → eqb r d ≡ false → P r (f r) (g r) (h r)) → (r : ℕ) → P r (put d x f r) (put d y g r) (put d z h r)
frame3 {A} {B} {C} P d x y z f g h here there r = go (eqb r d) refl
  where
    go : (b : Bool) → eqb r d ≡ b → P r (cond b x (f r)) (cond b y (g r)) (cond b z (h r))
    go true e = subst (λ k. P k x y z) (sym (eqb-true r d e)) here
    go false e = there r e
