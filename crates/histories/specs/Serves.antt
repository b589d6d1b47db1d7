-- What one call does: its answer, the records and words before and after. The contracts of the code say this.
use Rattle.std.specs.Prelude.{◌≡◌, ℕ, suc, ◌+◌, ◌-◌, ◌*◌, ◌%◌, max, Bool, true, false, cond, List, map, length, ◌==◌}
use Rattle.std.proofs.Math.Option.{Option, none, some}
use Rattle.algebra.specs.declared.Direction.{Direction}
use Rattle.rings.specs.declared.refusal.Refusal.{Refusal}
use Rattle.rings.specs.Refusals.{number_of, place_of, first, flaw}
use Rattle.guarded.specs.Model.{Guarded}
use Rattle.histories.specs.declared.register.Form.{Form}
use Rattle.histories.specs.declared.register.Register.{Register}
use Rattle.histories.specs.Operations.{Base, sum_of, difference_of, slot_product_of, layer_under, witness}
use Rattle.histories.specs.Forms.{done_of, form_after, in_form}
use Rattle.histories.specs.Calls.{checks, meanings, State, empty_record, Kind, form_of, Operation, plus, minus, times, Call, load, turn, join, refresh, clear, release, ruling, plains, residues, word_rules}

-- what the caller hears: that it is done, the numbers and the form of a release, or a refusal
pub data Answer : Type 0 where
  done : Answer
  given : List ℕ → Form → Answer
  refused : (number place : ℕ) → Answer

abbrev pub is_refused : Answer → Bool
is_refused done = false
is_refused (given xs F) = false
is_refused (refused n i) = true

-- f with x at d
abbrev pub put : {A : Type 0} → (d : ℕ) → A → (ℕ → A) → ℕ → A
put d x f r = cond (r == d) x (f r)

-- The records after an accepted call

abbrev pub loaded : Kind → (c : ℕ) → Register
loaded kind c = record { form = form_of kind; level = 1; a = c; b = 0 }

abbrev pub turned : Direction → Register → Register
turned way x = record { form = form_after way (suc (done_of x.form)); level = x.level; a = x.a; b = x.b }

-- witnesses are added and subtracted number by number; aJ times a'J is a a' J ^ 2
abbrev pub first_number : (p : ℕ) → Operation → (a a' : ℕ) → ℕ
first_number p plus a a' = (a + a') % p
first_number p minus a a' = (a + (p - a')) % p
first_number p times a a' = 0

abbrev pub second_number : (p : ℕ) → Operation → (a b a' b' : ℕ) → ℕ
second_number p plus a b a' b' = (b + b') % p
second_number p minus a b a' b' = (b + (p - b')) % p
second_number p times a b a' b' = (a * a') % p

abbrev pub level_of : Operation → (k l : ℕ) → ℕ
level_of plus k l = max k l
level_of minus k l = max k l
level_of times k l = 2

abbrev pub joined : (p : ℕ) → Operation → (x y : Register) → Register
joined p o x y =
    record {
      form = x.form;
      level = level_of o x.level y.level;
      a = first_number p o x.a y.a;
      b = second_number p o x.a x.b y.a y.b;
    }

abbrev pub registers_after : (p : ℕ) → (ℕ → Register) → Call → ℕ → Register
registers_after p S (load kind r xs c bytes) = put r (loaded kind c) S
registers_after p S (turn way r masks) = put r (turned way (S r)) S
registers_after p S (join o d a b) = put d (joined p o (S a) (S b)) S
registers_after p S (refresh r bytes) = S
registers_after p S (clear r) = put r empty_record S
registers_after p S (release r out scratch) = S

-- the mask store keeps the list of the last layer
abbrev pub masks_after : List ℕ → Call → List ℕ
masks_after stored (load kind r xs c bytes) = stored
masks_after stored (turn way r masks) = masks
masks_after stored (join o d a b) = stored
masks_after stored (refresh r bytes) = stored
masks_after stored (clear r) = stored
masks_after stored (release r out scratch) = stored

-- whether the call writes into the register r
abbrev pub writes : Call → ℕ → Bool
writes (load kind d xs c bytes) r = r == d
writes (turn way d masks) r = r == d
writes (join o d a b) r = r == d
writes (refresh d bytes) r = r == d
writes (clear d) r = false
writes (release d out scratch) r = false

-- the words' sum, difference or slot product
abbrev pub combined : Base → Operation → List ℕ → List ℕ → List ℕ
combined B plus = sum_of B
combined B minus = difference_of B
combined B times = slot_product_of B

-- the first refusal, if there is one, else the second
abbrev pub or : Option Refusal → Option Refusal → Option Refusal
or none o = o
or (some e) o = some e

module _ {W : Type 0} (G : Guarded W) where
  -- 256 elements that mean these numbers: which of the elements of each meaning is free
  pub record Meaning (xs : List ℕ) (words : List W) : Type 0 where
    pub size : length words ≡ 256
    pub elements : flaw G.element words ≡ none
    pub means : map G.meaning words ≡ xs

  -- 256 elements with these numbers among the elements of their meaning
  pub record Numbered (bytes : List ℕ) (words : List W) : Type 0 where
    pub size : length words ≡ 256
    pub elements : flaw G.element words ≡ none
    pub numbers : map G.number words ≡ bytes

  -- what is loaded: the coefficients modulo 3329, the witness c J in the same form modulo p, and the redundancy bytes
  pub record Loaded (kind : Kind) (xs : List ℕ) (c : ℕ) (bytes : List ℕ) (words : List W) : Type 0 where
    pub numbered : Numbered bytes words
    pub plain : plains G words ≡ xs
    pub check : residues G words ≡ in_form (checks G) (form_of kind) (witness (checks G) c 0)

  -- what an accepted call writes
  abbrev pub Written : State → (ℕ → List W) → Call → (ℕ → List W) → Type 0
  Written s words (load kind r xs c bytes) words' = Loaded kind xs c bytes (words' r)
  Written s words (turn way r masks) words' =
      Meaning (layer_under (meanings G) way (suc (done_of (s.registers r).form)) s.masks masks (map G.meaning (words r))) (words' r)
  Written s words (join o d a b) words' = Meaning (combined (meanings G) o (map G.meaning (words a)) (map G.meaning (words b))) (words' d)
  Written s words (refresh r bytes) words' = Meaning (map G.meaning (words r)) (words' r) × Numbered bytes (words' r)
  Written s words (clear r) words' = Unit {0}
  Written s words (release r out scratch) words' = Unit {0}

  -- what an accepted call answers
  abbrev pub reply : State → (ℕ → List W) → Call → Answer
  reply s words (load kind r xs c bytes) = done
  reply s words (turn way r masks) = done
  reply s words (join o d a b) = done
  reply s words (refresh r bytes) = done
  reply s words (clear r) = done
  reply s words (release r out scratch) = given (plains G (words r)) (s.registers r).form

  pub record Accepted (s : State) (words : ℕ → List W) (c : Call) (s' : State) (words' : ℕ → List W) : Type 0 where
    pub registers : s'.registers ≡ registers_after G.p s.registers c
    pub masks : s'.masks ≡ masks_after s.masks c
    pub others : (r : ℕ) → writes c r ≡ false → words' r ≡ words r
    pub written : Written s words c words'

  -- why a call is refused, if it is: for its arguments and the records, else for the words
  unfoldable pub verdict : State → (lent : ℕ) → (ℕ → List W) → Call → Option Refusal
  verdict s lent words c = or (ruling G.p G.t s.registers lent c) (first (word_rules G s.registers words c))

  -- a call that is lent so many words: it is accepted where nothing refuses it; else it answers the refusal, and nothing changes
  pub data Serves (s : State) (lent : ℕ) (words : ℕ → List W) (c : Call) (answer : Answer) (s' : State) (words' : ℕ → List W) : Type 0 where
    accepts : verdict s lent words c ≡ none → answer ≡ reply s words c → Accepted s words c s' words' → Serves s lent words c answer s' words'
    refuses : (why : Refusal) → verdict s lent words c ≡ some why → answer ≡ refused (number_of why) (place_of why) → s' ≡ s → words' ≡ words →
        Serves s lent words c answer s' words'
