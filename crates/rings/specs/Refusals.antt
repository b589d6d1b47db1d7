-- Refusals by number and place, and the checks of a call in their order.
use Rattle.std.specs.Prelude.{◌≡◌, ℕ, suc, Bool, true, cond, List, [], ◌∷◌, Ok, Err, Result, nat_lt}
use Rattle.std.proofs.Math.Option.{Option, none, some}
use Rattle.rings.specs.declared.refusal.Refusal.{Refusal}
use Rattle.rings.specs.declared.refusal.Refusal.TheVariants.{Length, Register, Modulus, Redundancy, Range, Witness, Digit, Layer, Cut, Tag, Size, Long, Empty, Form, Busy, Masks, Level, Silent, Stray, Fault}

abbrev pub number_of : Refusal → ℕ
number_of (Length slice) = 1
number_of (Register register) = 2
number_of Modulus = 3
number_of Redundancy = 4
number_of (Range index) = 5
number_of Witness = 6
number_of (Digit index) = 7
number_of Layer = 8
number_of (Cut offset) = 10
number_of (Tag offset) = 11
number_of (Size offset) = 12
number_of Long = 13
number_of (Empty register) = 20
number_of (Form register) = 21
number_of (Busy register) = 22
number_of (Masks register) = 23
number_of (Level register) = 24
number_of (Silent register) = 25
number_of (Stray index) = 26
number_of (Fault index) = 27

abbrev pub place_of : Refusal → ℕ
place_of (Length slice) = slice
place_of (Register register) = register
place_of Modulus = 0
place_of Redundancy = 0
place_of (Range index) = index
place_of Witness = 0
place_of (Digit index) = index
place_of Layer = 0
place_of (Cut offset) = offset
place_of (Tag offset) = offset
place_of (Size offset) = offset
place_of Long = 32768
place_of (Empty register) = register
place_of (Form register) = register
place_of (Busy register) = register
place_of (Masks register) = register
place_of (Level register) = register
place_of (Silent register) = register
place_of (Stray index) = index
place_of (Fault index) = index

-- how a call answers
pub data Answer : Type 0 where
  accepted : Answer
  refused : (number place : ℕ) → Answer

abbrev pub answer : {X : Type 0} → Result X Refusal → Answer
answer (Ok x) = accepted
answer (Err e) = refused (number_of e) (place_of e)

-- the refusal, if there is one
abbrev pub complaint : {X : Type 0} → Result X Refusal → Option Refusal
complaint (Ok x) = none
complaint (Err why) = some why

-- a check of a call: a test that has to be true, or a search that has to find no place, each with the complaint that it makes
pub data Check (A : Type 0) : Type 0 where
  test : Bool → A → Check A
  scan : Option ℕ → (ℕ → A) → Check A

-- the answer of a call that makes these checks in this order
abbrev pub found : Option ℕ → (ℕ → Refusal) → Answer → Answer
found none refusal later = later
found (some place) refusal later = refused (number_of (refusal place)) (place_of (refusal place))

abbrev pub ruling : List (Check Refusal) → Answer
ruling [] = accepted
ruling (test b e ∷ checks) = cond b (ruling checks) (refused (number_of e) (place_of e))
ruling (scan o e ∷ checks) = found o e (ruling checks)

-- the first complaint that checks make
abbrev pub or_else : {A : Type 0} → Option ℕ → (ℕ → A) → Option A → Option A
or_else none complaint later = later
or_else (some place) complaint later = some (complaint place)

abbrev pub first : {A : Type 0} → List (Check A) → Option A
first [] = none
first (test b e ∷ checks) = cond b (first checks) (some e)
first (scan o e ∷ checks) = or_else o e (first checks)

-- what it means that none of them complains
abbrev pub Passes : {A : Type 0} → List (Check A) → Type 0
Passes [] = Unit {0}
Passes (test b e ∷ checks) = (b ≡ true) × Passes checks
Passes (scan o e ∷ checks) = (o ≡ none) × Passes checks

-- the first index at which a list fails a test
abbrev pub next : Option ℕ → Option ℕ
next none = none
next (some k) = some (suc k)

abbrev pub flaw : {A : Type 0} → (A → Bool) → List A → Option ℕ
flaw passes [] = none
flaw passes (x ∷ xs) = cond (passes x) (next (flaw passes xs)) (some 0)

abbrev pub below : (m x : ℕ) → Bool
below m x = nat_lt x m
