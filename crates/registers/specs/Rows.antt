-- What the loops over the words of registers promise.
use Rattle.std.specs.Prelude.{◌≡◌, ℕ, ◌+◌, ◌*◌, ◌<◌, Bool, false, List, length, ◌==◌, slice_index_or}
use Rattle.std.proofs.Math.Option.{none}
use Rattle.rings.specs.Refusals.{flaw}
use Rattle.guarded.specs.Model.{Guarded, Lifted}
use Rattle.histories.specs.Calls.{part, plains, residues}
use Rattle.histories.specs.Serves.{Numbered}

-- every word of register r is an element
abbrev pub Tested : {W : Type 0} → (element : W → Bool) → List W → (r : ℕ) → Type 0
Tested element words r = flaw element (part words r) ≡ none

-- at most the words of register d have changed
pub record Only {W : Type 0} (d : ℕ) (words words' : List W) : Type 0 where
  pub size : length words' ≡ length words
  pub others : (r : ℕ) → (r == d) ≡ false → part words' r ≡ part words r

-- 256 elements that leave these numbers by 3329 and by p, and have these numbers among the elements of their meanings
pub record Holding {W : Type 0} (G : Guarded W) (xs cs bytes : List ℕ) (words : List W) : Type 0 where
  pub numbered : Numbered G bytes words
  pub plain : plains G words ≡ xs
  pub check : residues G words ≡ cs

-- every word is lift(0, 0, 0)
pub record Wiped {W : Type 0} (G : Guarded W) (words : List W) : Type 0 where
  pub at : (k : ℕ) (d : W) → k < length words → Lifted G 0 0 0 (slice_index_or words k d)

-- each word of register d is one that words of a and b at its place may make, and the other registers' words are as they were
pub record Combined {W : Type 0} (Makes : W → W → W → Type 0) (d a b : ℕ) (words words' : List W) : Type 0 where
  pub only : Only d words words'
  pub made : (k : ℕ) (e : W) → k < 256 →
      Makes (slice_index_or words (256 * a + k) e) (slice_index_or words (256 * b + k) e) (slice_index_or words' (256 * d + k) e)
