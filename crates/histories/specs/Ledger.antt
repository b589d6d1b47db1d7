-- Histories of calls and strikes; the ledger of what was put in; and which registers a strike has reached.
use Rattle.std.specs.Prelude.{◌≡◌, ℕ, suc, pred, Bool, true, false, cond, ◌⊎◌, List, [], ◌∷◌, length}
use Rattle.algebra.specs.declared.Direction.{Direction}
use Rattle.algebra.specs.declared.Direction.TheVariants.{Forward, Inverse}
use Rattle.guarded.specs.Model.{Guarded}
use Rattle.histories.specs.declared.register.Form.TheVariants.{Natural, Transformed}
use Rattle.histories.specs.Operations.{Base, sum_of, difference_of, product_of, transform_of, inverse_of}
use Rattle.histories.specs.Calls.{coefficients, State, opened, part, Kind, polynomial, transform, Operation, plus, minus, times, Call, load, turn, join, refresh, clear, release}
use Rattle.histories.specs.Serves.{Answer, given, is_refused, put, Serves}

-- A call with what happened before it: the words as the call before left them and as this one finds them. Where a register's words
-- differ it is struck. (Words cannot be compared, so an event says which registers are struck; the others' words are the same.)
-- A call that is lent another slice than these words, of another length, is refused for that.
pub record Event (W : Type 0) : Type 0 where
  pub left : List W
  pub found : List W
  pub struck : ℕ → Bool
  pub lent : ℕ
  pub call : Call
  pub answer : Answer

-- every list of calls, newest first, on one workspace and its 2,048 words; they may hold anything when it is opened
pub data History {W : Type 0} (G : Guarded W) : List (Event W) → State → List W → Type 0 where
  opens : (words : List W) → length words ≡ 2048 → History G [] opened words
  goes : {es : List (Event W)} {s : State} {words : List W} → History G es s words → (e : Event W) → e.left ≡ words →
      length e.found ≡ 2048 → ((r : ℕ) → e.struck r ≡ false → part e.found r ≡ part e.left r) →
      (s' : State) (words' : List W) → Serves G s e.lent (part e.found) e.call e.answer s' (part words') → History G (e ∷ es) s' words'

-- The ledger holds nothing for a register, or a polynomial and how many layers of its transform it has had

pub data Held : Type 0 where
  nothing : Held
  holds : (f : List ℕ) (layers : ℕ) → Held

-- a transform that is loaded is that of its inverse transform
abbrev pub put_in : Kind → List ℕ → Held
put_in polynomial xs = holds xs 0
put_in transform xs = holds (inverse_of coefficients xs) 7

abbrev pub moved : Direction → Held → Held
moved way nothing = nothing
moved Forward (holds f l) = holds f (suc l)
moved Inverse (holds f l) = holds f (pred l)

-- of polynomials, modulo X ^ 256 + 1
abbrev pub result : Base → Operation → List ℕ → List ℕ → List ℕ
result B plus = sum_of B
result B minus = difference_of B
result B times = product_of B

abbrev pub held_of : Operation → Held → Held → Held
held_of o nothing y = nothing
held_of o (holds f l) nothing = nothing
held_of o (holds f l) (holds g m) = holds (result coefficients o f g) l

abbrev pub ledger_after : Call → (ℕ → Held) → ℕ → Held
ledger_after (load kind r xs c bytes) L = put r (put_in kind xs) L
ledger_after (turn way r masks) L = put r (moved way (L r)) L
ledger_after (join o d a b) L = put d (held_of o (L a) (L b)) L
ledger_after (refresh r bytes) L = L
ledger_after (clear r) L = put r nothing L
ledger_after (release r out scratch) L = L

-- refused calls change nothing
abbrev pub ledger : {W : Type 0} → List (Event W) → ℕ → Held
ledger [] = λ r. nothing
ledger (e ∷ es) = cond (is_refused e.answer) (ledger es) (ledger_after e.call (ledger es))

-- the answer is what the ledger reads: with no layer the polynomial, natural; with all of them its transform, transformed
abbrev pub Reads : Held → Answer → Type 0
Reads nothing answer = ⊥
Reads (holds f l) answer = ((l ≡ 0) × (answer ≡ given f Natural)) ⊎ ((l ≡ 7) × (answer ≡ given (transform_of coefficients f) Transformed))

-- Reach: no strike has reached the register, or one has, with the words of the register that it struck before and after

pub data Reach (W : Type 0) : Type 0 where
  unreached : Reach W
  reached : (before after : List W) → Reach W

-- a strike reaches its register unless the ledger holds nothing there
abbrev pub struck_reach : {W : Type 0} → Held → Bool → Reach W → (before after : List W) → Reach W
struck_reach nothing b R before after = R
struck_reach (holds f l) true R before after = reached before after
struck_reach (holds f l) false R before after = R

-- a result is reached by the strike that reached an operand
abbrev pub either : {W : Type 0} → Reach W → Reach W → Reach W
either unreached y = y
either (reached before after) y = reached before after

abbrev pub reach_after : {W : Type 0} → Call → (ℕ → Reach W) → ℕ → Reach W
reach_after (load kind r xs c bytes) R = put r unreached R
reach_after (turn way r masks) R = R
reach_after (join o d a b) R = put d (either (R a) (R b)) R
reach_after (refresh r bytes) R = R
reach_after (clear r) R = put r unreached R
reach_after (release r out scratch) R = R

-- once the strikes before the event have happened
abbrev pub strike : {W : Type 0} → Event W → List (Event W) → (ℕ → Reach W) → ℕ → Reach W
strike e es R r = struck_reach (ledger es r) (e.struck r) (R r) (part e.left r) (part e.found r)

abbrev pub reach : {W : Type 0} → List (Event W) → ℕ → Reach W
reach [] = λ r. unreached
reach (e ∷ es) = cond (is_refused e.answer) (strike e es (reach es)) (reach_after e.call (strike e es (reach es)))

-- when the call of the event is made
abbrev pub reach_at : {W : Type 0} → Event W → List (Event W) → ℕ → Reach W
reach_at e es = strike e es (reach es)

-- not both operands are reached
abbrev pub Apart : {W : Type 0} → Call → (ℕ → Reach W) → Type 0
Apart (load kind r xs c bytes) R = Unit {0}
Apart (turn way r masks) R = Unit {0}
Apart (join o d a b) R = (R a ≡ unreached) ⊎ (R b ≡ unreached)
Apart (refresh r bytes) R = Unit {0}
Apart (clear r) R = Unit {0}
Apart (release r out scratch) R = Unit {0}

-- no reached register is struck again, and no accepted call takes two reached operands
abbrev pub Single : {W : Type 0} → List (Event W) → Type 0
Single [] = Unit {0}
Single (e ∷ es) =
    Single es
    × ((r : ℕ) → e.struck r ≡ true → reach es r ≡ unreached)
    × (is_refused e.answer ≡ false → Apart e.call (reach_at e es))
