-- The numbers of a text.
use Rattle.std.specs.Prelude.{◌≡◌, ℕ, List, Option, Result, Ok, Err, Some, None}
use denote.Ref.{Bor}
use Rattle.std.specs.Iterator.{YieldsThen}
use Rattle.std.specs.List.{AllZip}
use Rattle.std.specs.Str.Iter.{split_whitespace_rest, split_whitespace_steps}
use Rattle.std.specs.declared.num.ParseIntError.{ParseIntError}
use Rattle.std.specs.declared.str.SplitWhitespace.{SplitWhitespace}
use Rattle.input.specs.declared.reading.ReadError.{ReadError}
use Rattle.input.specs.declared.reading.ReadError.TheVariants as why

-- the first words of the text, which white space separates, and the next one, or none at the end
pub record Begins (text : List ℕ) (words : List (Bor (List ℕ))) (next : Option (Bor (List ℕ))) : Type 0 where
  pub start : SplitWhitespace
  pub left : SplitWhitespace
  pub whole : split_whitespace_rest start ≡ text
  pub splits : YieldsThen split_whitespace_steps start words next left

module _ {T : Type 0} (gives : List ℕ → Result T ParseIntError → Type 0) (text : List ℕ) where
  -- the words before next write the numbers all
  pub record Writes (all : List T) (next : Option (Bor (List ℕ))) : Type 0 where
    pub words : List (Bor (List ℕ))
    pub begins : Begins text words next
    pub numbers : AllZip (λ word x. gives word.now (Ok x)) words all

  -- the text's words write the numbers all
  abbrev pub Reads : List T → Type 0
  Reads all = Writes all None

  -- the words before one write numbers, and that one writes none; or memory ran out
  abbrev pub Fails : ReadError → Type 0
  Fails (why.Word e) = (all : List T) × (word : Bor (List ℕ)) × Writes all (Some word) × gives word.now (Err e)
  Fails (why.OutOfMemory e) = Unit {0}
