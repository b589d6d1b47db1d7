-- The calls of a workspace, and what each is refused for.
use Rattle.std.specs.Prelude.{ℕ, suc, ◌+◌, ◌*◌, Bool, cond, not, ◌&&◌, ◌||◌, List, [], ◌∷◌, map, length, take, drop, ◌==◌, nat_le, nat_lt}
use Rattle.std.proofs.Math.Option.{Option, none, some}
use Rattle.algebra.specs.declared.Direction.{Direction}
use Rattle.algebra.specs.Masks.{suits}
use Rattle.rings.specs.declared.refusal.Refusal.{Refusal}
use Rattle.rings.specs.declared.refusal.Refusal.TheVariants as refuse
use Rattle.rings.specs.Refusals.{Check, test, scan, first, next, flaw, below}
use Rattle.guarded.specs.Model.{Guarded}
use Rattle.histories.specs.declared.register.Form.{Form}
use Rattle.histories.specs.declared.register.Form.TheVariants.{Empty, Natural, Transformed}
use Rattle.histories.specs.declared.register.Register.{Register}
use Rattle.histories.specs.Operations.{Base, remainders, witness}
use Rattle.histories.specs.Forms.{occupied, in_work, is_transformed, whole, same_form, turns, done_of, in_form}

-- the three bases of a guarded ring: the coefficients, the check residues, and both at once
abbrev pub coefficients : Base
coefficients = record { modulus = 3329; root = 17 }

abbrev pub checks : {W : Type 0} → Guarded W → Base
checks G = record { modulus = G.p; root = G.w }

abbrev pub meanings : {W : Type 0} → Guarded W → Base
meanings G = record { modulus = 3329 * G.p; root = G.w }

-- the records of the registers, and the list of masks that the last layer took
pub record State : Type 0 where
  pub registers : ℕ → Register
  pub masks : List ℕ

abbrev pub empty_record : Register
empty_record = record { form = Empty; level = 0; a = 0; b = 0 }

abbrev pub opened : State
opened = record { registers = λ r. empty_record; masks = [] }

-- the words of the register r
unfoldable pub part : {W : Type 0} → List W → ℕ → List W
part words r = take 256 (drop (256 * r) words)

-- whether a polynomial or a transform is loaded
pub data Kind : Type 0 where
  polynomial transform : Kind

abbrev pub form_of : Kind → Form
form_of polynomial = Natural
form_of transform = Transformed

pub data Operation : Type 0 where
  plus minus times : Operation

-- a call with its arguments; of out and scratch, which a release is lent, the lengths
pub data Call : Type 0 where
  load : Kind → (r : ℕ) (xs : List ℕ) (c : ℕ) (bytes : List ℕ) → Call
  turn : Direction → (r : ℕ) (masks : List ℕ) → Call
  join : Operation → (d a b : ℕ) → Call
  refresh : (r : ℕ) (bytes : List ℕ) → Call
  clear : (r : ℕ) → Call
  release : (r out scratch : ℕ) → Call

-- Each call is checked in the order of the refusals' numbers, within a number in the order in which slices or registers are named.

abbrev pub sized : (n wanted position : ℕ) → Check Refusal
sized n wanted position = test (n == wanted) (refuse.Length position)

abbrev pub known : ℕ → Check Refusal
known r = test (nat_lt r 8) (refuse.Register r)

abbrev pub used : (ℕ → Register) → ℕ → Check Refusal
used S r = test (occupied (S r).form) (refuse.Empty r)

abbrev pub idle : (ℕ → Register) → ℕ → Check Refusal
idle S r = test (not (in_work (S r).form)) (refuse.Form r)

abbrev pub digits : (t : ℕ) → List ℕ → Check Refusal
digits t bytes = scan (flaw (below t) bytes) refuse.Digit

unfoldable pub eight : List ℕ
eight = 0 ∷ 1 ∷ 2 ∷ 3 ∷ 4 ∷ 5 ∷ 6 ∷ 7 ∷ []

-- the register k does not hinder a layer of r: r is in work already, or k is r, or k is not in work
abbrev pub free : (ℕ → Register) → (r k : ℕ) → Bool
free S r k = in_work (S r).form || (k == r || not (in_work (S k).form))

-- the forms that suit an operand
abbrev pub joins : Operation → Form → Bool
joins plus F = whole F
joins minus F = whole F
joins times F = is_transformed F

-- what a product asks of its factors besides
abbrev pub factors : (ℕ → Register) → Operation → (a b : ℕ) → List (Check Refusal)
factors S plus a b = []
factors S minus a b = []
factors S times a b =
    test (nat_le (S a).level 1) (refuse.Level a)
    ∷ test (nat_le (S b).level 1) (refuse.Level b)
    ∷ test (nat_lt 0 (S a).a) (refuse.Silent a)
    ∷ test (nat_lt 0 (S b).a) (refuse.Silent b)
    ∷ []

-- what is checked in the arguments and the records
abbrev pub call_rules : (p t : ℕ) → (ℕ → Register) → Call → List (Check Refusal)
call_rules p t S (load kind r xs c bytes) =
    sized (length xs) 256 1
    ∷ sized (length bytes) 256 2
    ∷ known r
    ∷ scan (flaw (below 3329) xs) refuse.Range
    ∷ test (nat_lt 0 c && nat_lt c p) refuse.Witness
    ∷ digits t bytes
    ∷ idle S r
    ∷ []
call_rules p t S (turn way r masks) =
    known r
    ∷ used S r
    ∷ test (turns way (S r).form) (refuse.Form r)
    ∷ scan (flaw (free S r) eight) refuse.Busy
    ∷ test (suits 7 (suc (done_of (S r).form)) masks) (refuse.Masks r)
    ∷ []
call_rules p t S (join o d a b) =
    known d
    ∷ known a
    ∷ known b
    ∷ used S a
    ∷ used S b
    ∷ idle S d
    ∷ test (joins o (S a).form) (refuse.Form a)
    ∷ test (same_form (S a).form (S b).form) (refuse.Form b)
    ∷ factors S o a b
call_rules p t S (refresh r bytes) = sized (length bytes) 256 1 ∷ known r ∷ digits t bytes ∷ used S r ∷ []
call_rules p t S (clear r) = known r ∷ []
call_rules p t S (release r out scratch) =
    sized out 256 1 ∷ sized scratch 256 2 ∷ known r ∷ used S r ∷ test (whole (S r).form) (refuse.Form r) ∷ []

-- of a call that is lent this many words
abbrev pub rules : (p t : ℕ) → (ℕ → Register) → (lent : ℕ) → Call → List (Check Refusal)
rules p t S lent c = sized lent 2048 0 ∷ call_rules p t S c

unfoldable pub ruling : (p t : ℕ) → (ℕ → Register) → (lent : ℕ) → Call → Option Refusal
ruling p t S lent c = first (rules p t S lent c)

-- the first index at which two lists differ
abbrev pub differ : List ℕ → List ℕ → Option ℕ
differ [] [] = none
differ [] (y ∷ ys) = some 0
differ (x ∷ xs) [] = some 0
differ (x ∷ xs) (y ∷ ys) = cond (x == y) (next (differ xs ys)) (some 0)

module _ {W : Type 0} (G : Guarded W) where
  -- the remainders of words by 3329, and by p
  abbrev pub plains : List W → List ℕ
  plains ws = remainders coefficients (map G.meaning ws)

  abbrev pub residues : List W → List ℕ
  residues ws = remainders (checks G) (map G.meaning ws)

  -- every word of the register is an element
  abbrev pub elements : (ℕ → List W) → ℕ → Check Refusal
  elements words r = scan (flaw G.element (words r)) (λ k. refuse.Stray (256 * r + k))

  -- what the witness says that a whole register holds modulo p
  abbrev pub due : Register → List ℕ
  due x = in_form (checks G) x.form (witness (checks G) x.a x.b)

  -- what is checked in the words
  abbrev pub word_rules : (ℕ → Register) → (ℕ → List W) → Call → List (Check Refusal)
  word_rules S words (load kind r xs c bytes) = []
  word_rules S words (turn way r masks) = elements words r ∷ []
  word_rules S words (join o d a b) = elements words a ∷ elements words b ∷ []
  word_rules S words (refresh r bytes) = elements words r ∷ []
  word_rules S words (clear r) = []
  word_rules S words (release r out scratch) = elements words r ∷ scan (differ (residues (words r)) (due (S r))) refuse.Fault ∷ []
