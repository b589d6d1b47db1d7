-- Rows of words: what they hold, and what a layer writes into them.
use Rattle.std.specs.Prelude.{◌≡◌, ℕ, ◌+◌, ◌*◌, ◌<◌, ◌≤◌, Bool, true, ◌≢◌, List, map, length, slice_index, slice_index_or}
use Rattle.algebra.specs.Congruence.{Same}

-- every word of the row is an element
pub record Elements {W : Type 0} (element : W → Bool) (ws : List W) : Type 0 where
  pub at : (k : ℕ) (d : W) → k < length ws → element (slice_index_or ws k d) ≡ true

-- a row: 256 words, all of them elements
pub record IsRow {W : Type 0} (element : W → Bool) (ws : List W) : Type 0 where
  pub size : length ws ≡ 256
  pub all : Elements element ws

-- the number that the word at place j means
abbrev pub held : {W : Type 0} → (W → ℕ) → List W → ℕ → ℕ
held meaning ws j = slice_index (map meaning ws) j

-- the words at i and j are written: Q relates the two old numbers to the two new ones
pub record PairWritten {W : Type 0} (element : W → Bool) (meaning : W → ℕ) (i j : ℕ) (Q : ℕ → ℕ → ℕ → ℕ → Type 0) (ws ws' : List W) : Type 0 where
  pub size : length ws' ≡ length ws
  pub all : Elements element ws'
  pub others : (k : ℕ) → k ≢ i → k ≢ j → held meaning ws' k ≡ held meaning ws k
  pub here : Q (held meaning ws i) (held meaning ws j) (held meaning ws' i) (held meaning ws' j)

-- the first n pairs of the group of 2 * len words that starts at base are written
pub record GroupWritten {W : Type 0} (element : W → Bool) (meaning : W → ℕ) (base len n : ℕ) (Q : ℕ → ℕ → ℕ → ℕ → ℕ → Type 0) (ws ws' : List W) : Type 0 where
  pub size : length ws' ≡ length ws
  pub all : Elements element ws'
  pub before : (k : ℕ) → k < base → held meaning ws' k ≡ held meaning ws k
  pub between : (k : ℕ) → base + n ≤ k → k < base + len → held meaning ws' k ≡ held meaning ws k
  pub after : (k : ℕ) → base + len + n ≤ k → held meaning ws' k ≡ held meaning ws k
  pub here : (o : ℕ) → o < n → Q o (held meaning ws (base + o)) (held meaning ws (base + o + len)) (held meaning ws' (base + o)) (held meaning ws' (base + o + len))

-- the first n groups of a layer are written
pub record LayerWritten {W : Type 0} (element : W → Bool) (meaning : W → ℕ) (len n : ℕ) (Q : ℕ → ℕ → ℕ → ℕ → ℕ → ℕ → Type 0) (ws ws' : List W) : Type 0 where
  pub size : length ws' ≡ length ws
  pub all : Elements element ws'
  pub after : (k : ℕ) → n * (2 * len) ≤ k → held meaning ws' k ≡ held meaning ws k
  pub here : (g o : ℕ) → g < n → o < len →
      Q g o (held meaning ws (g * (2 * len) + o)) (held meaning ws (g * (2 * len) + o + len)) (held meaning ws' (g * (2 * len) + o)) (held meaning ws' (g * (2 * len) + o + len))

-- the first n words are multiplied by the number x, modulo suc neg
pub record Multiplied {W : Type 0} (element : W → Bool) (meaning : W → ℕ) (neg x n : ℕ) (ws ws' : List W) : Type 0 where
  pub size : length ws' ≡ length ws
  pub all : Elements element ws'
  pub after : (k : ℕ) → n ≤ k → held meaning ws' k ≡ held meaning ws k
  pub here : (k : ℕ) → k < n → Same neg (held meaning ws' k) (x * held meaning ws k)
