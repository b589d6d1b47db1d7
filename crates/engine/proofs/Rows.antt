-- Rows of words: a layer is written pair by pair and group by group.
use Rattle.std.proofs.Common.{◌≡◌, ℕ, ◌+◌, ◌*◌, ◌<◌, ◌≤◌, Bool, true, ◌≢◌, List, map, length, get_or, set, sym, ap, ◌∙◌, mul-le-mul_right, add-mul, arith, length-set, get_or-set_other, get_or-set_same}
use native.Mathlib.Decide.{ℕ_discrete, dec_lt}
use lib.ListN.{length-map}
use lib.Seq.{map-set}
use Rattle.std.proofs.lemmas.List.{get_or-map}
use Rattle.engine.specs.Rows.{Elements, held, PairWritten, GroupWritten, LayerWritten}

module _ {W : Type 0} (element : W → Bool) where
  pub elements_set : (ws : List W) (i : ℕ) (v : W) → Elements element ws → element v ≡ true → Elements element (set ws i v)
  elements_set ws i v all here = record {
    at = λ k d h.
        let within : k < length ws = simp length-set at h in
        elim (ℕ_discrete k i) [
          | yes e ↦ rw e (let w : i < length ws = omega arith in rw get_or-set_same here)
          | no ne ↦ rw (get_or-set_other ws i k v d ne) (all.at k d within)
        ];
  }

  pub element_read : (ws : List W) (i : ℕ) (a : W) → Elements element ws → i < length ws → a ≡ get_or ws i a → element a ≡ true
  element_read ws i a all h e = ap element e ∙ all.at i a h

pub held_at : {W : Type 0} (f : W → ℕ) (ws : List W) (i : ℕ) (a : W) → i < length ws → a ≡ get_or ws i a → held f ws i ≡ f a
held_at f ws i a h e = get_or-map f ws i a 0 h ∙ ap f (sym e)

held_set : {W : Type 0} (f : W → ℕ) (ws : List W) (i : ℕ) (v : W) (k : ℕ) → held f (set ws i v) k ≡ get_or (set (map f ws) i (f v)) k 0
held_set f ws i v k = simp map-set

pub held_same : {W : Type 0} (f : W → ℕ) (ws : List W) (i : ℕ) (v : W) → i < length ws → held f (set ws i v) i ≡ f v
held_same f ws i v h = held_set f ws i v i ∙ get_or-set_same (map f ws) i (f v) 0 (simp length-map h)

pub held_other : {W : Type 0} (f : W → ℕ) (ws : List W) (i : ℕ) (v : W) (k : ℕ) → k ≢ i → held f (set ws i v) k ≡ held f ws k
held_other f ws i v k ne = held_set f ws i v k ∙ get_or-set_other (map f ws) i k (f v) 0 ne

module _ {W : Type 0} (element : W → Bool) (f : W → ℕ) where
  pub pair_written : (i j : ℕ) (Q : ℕ → ℕ → ℕ → ℕ → Type 0) (ws : List W) (a b r s : W) → i < j → j < length ws → Elements element ws → element r ≡ true → element s ≡ true →
      a ≡ get_or ws i a → b ≡ get_or ws j b → Q (f a) (f b) (f r) (f s) → PairWritten element f i j Q ws (set (set ws i r) j s)
  pair_written i j Q ws a b r s h k all er es ea eb q =
      let ne : i ≢ j = omega arith in
      let within : j < length (set ws i r) = simp length-set k in
      let left : held f (set (set ws i r) j s) i ≡ f r = held_other f (set ws i r) j s i ne ∙ held_same f ws i r (omega arith) in
      let right : held f (set (set ws i r) j s) j ≡ f s = held_same f (set ws i r) j s within in
      let old_left : held f ws i ≡ f a = held_at f ws i a (omega arith) ea in
      let old_right : held f ws j ≡ f b = held_at f ws j b k eb in
      record {
        size = simp length-set;
        all = elements_set element (set ws i r) j s (elements_set element ws i r all er) es;
        others = λ n u v. held_other f (set ws i r) j s n v ∙ held_other f ws i r n u;
        here = rw (old_left, old_right, left, right) q;
      }

  pub pair_as : (i j : ℕ) (Q Q' : ℕ → ℕ → ℕ → ℕ → Type 0) (ws ws' : List W) → ((a b a' b' : ℕ) → Q a b a' b' → Q' a b a' b') →
      PairWritten element f i j Q ws ws' → PairWritten element f i j Q' ws ws'
  pair_as i j Q Q' ws ws' h c = record { size = c.size; all = c.all; others = c.others; here = h _ _ _ _ c.here }

  pub group_more : (base len n : ℕ) (Q : ℕ → ℕ → ℕ → ℕ → ℕ → Type 0) (ws ws₁ ws₂ : List W) → n < len →
      GroupWritten element f base len n Q ws ws₁ → PairWritten element f (base + n) (base + n + len) (Q n) ws₁ ws₂ → GroupWritten element f base len (n + 1) Q ws ws₂
  group_more base len n Q ws ws₁ ws₂ h t c = record {
    size = c.size ∙ t.size;
    all = c.all;
    before = λ k l. c.others k (omega arith) (omega arith) ∙ t.before k l;
    between = λ k l u. c.others k (omega arith) (omega arith) ∙ t.between k (omega arith) u;
    after = λ k l. c.others k (omega arith) (omega arith) ∙ t.after k (omega arith);
    here = λ o l. elim (dec_lt o n) [
      | yes u ↦
          let left : held f ws₂ (base + o) ≡ held f ws₁ (base + o) = c.others (base + o) (omega arith) (omega arith) in
          let right : held f ws₂ (base + o + len) ≡ held f ws₁ (base + o + len) = c.others (base + o + len) (omega arith) (omega arith) in
          rw (left, right) (t.here o u)
      | no u ↦
          let e : o ≡ n = omega arith in
          let left : held f ws₁ (base + n) ≡ held f ws (base + n) = t.between (base + n) (omega arith) (omega arith) in
          let right : held f ws₁ (base + n + len) ≡ held f ws (base + n + len) = t.after (base + n + len) (omega arith) in
          rw (e, ← left, ← right) c.here
    ];
  }

-- later groups lie past the earlier ones
pub past : (g n len : ℕ) → g < n → g * (2 * len) + 2 * len ≤ n * (2 * len)
past g n len h =
    let up : g + 1 ≤ n = omega arith in
    omega (arith, mul-le-mul_right {m = g + 1} {n = n} (2 * len) up, add-mul g 1 (2 * len))

module _ {W : Type 0} (element : W → Bool) (f : W → ℕ) where
  pub layer_more : (len n : ℕ) (Q : ℕ → ℕ → ℕ → ℕ → ℕ → ℕ → Type 0) (ws ws₁ ws₂ : List W) →
      LayerWritten element f len n Q ws ws₁ → GroupWritten element f (n * (2 * len)) len len (Q n) ws₁ ws₂ → LayerWritten element f len (n + 1) Q ws ws₂
  layer_more len n Q ws ws₁ ws₂ t c = record {
    size = c.size ∙ t.size;
    all = c.all;
    after = λ k l. let p = past n (n + 1) len (omega arith) in c.after k (omega arith) ∙ t.after k (omega arith);
    here = λ g o l v. elim (dec_lt g n) [
      | yes u ↦
          let p = past g n len u in
          let left : held f ws₂ (g * (2 * len) + o) ≡ held f ws₁ (g * (2 * len) + o) = c.before (g * (2 * len) + o) (omega arith) in
          let right : held f ws₂ (g * (2 * len) + o + len) ≡ held f ws₁ (g * (2 * len) + o + len) = c.before (g * (2 * len) + o + len) (omega arith) in
          rw (left, right) (t.here g o u v)
      | no u ↦
          let e : g ≡ n = omega arith in
          let left : held f ws₁ (n * (2 * len) + o) ≡ held f ws (n * (2 * len) + o) = t.after (n * (2 * len) + o) (omega arith) in
          let right : held f ws₁ (n * (2 * len) + o + len) ≡ held f ws (n * (2 * len) + o + len) = t.after (n * (2 * len) + o + len) (omega arith) in
          rw (e, ← left, ← right) (c.here o v)
    ];
  }
