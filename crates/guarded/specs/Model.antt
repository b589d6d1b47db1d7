-- What a guarded ring is: numbers modulo 3329 * p, each of which t words mean.
use Rattle.std.specs.Prelude.{◌≡◌, ℕ, ◌+◌, ◌*◌, ◌%◌, ◌^◌, ◌<◌, ◌≤◌, Bool, true}
use Rattle.algebra.specs.Prime.{Prime}

-- the check modulus p, the redundancy number t, the root w; which words are elements, the number that an element means, and its own
-- number among the t elements of that meaning
pub record Guarded (W : Type 0) : Type 0 where
  pub p : ℕ
  pub t : ℕ
  pub w : ℕ
  pub element : W → Bool
  pub meaning : W → ℕ
  pub number : W → ℕ

-- the ghost members of a ring's type, at one of its values
abbrev pub guarded : {S W : Type 0} (check redundancy root : S → ℕ) (element : S → W → Bool) (meaning number : S → W → ℕ) → S → Guarded W
guarded check redundancy root element meaning number s =
    record { p = check s; t = redundancy s; w = root s; element = element s; meaning = meaning s; number = number s }

-- the same of the record of all of a type's ghost members, as `model G.GuardedRing ring.now` under a bound `G: GuardedRing`
abbrev pub model :
    {S W : Type 0} →
    record {
      modulus : S → ℕ;
      root : S → ℕ;
      element : S → W → Bool;
      meaning : S → W → ℕ;
      check : S → ℕ;
      redundancy : S → ℕ;
      number : S → W → ℕ;
    } →
    S → Guarded W
model R s = guarded R.check R.redundancy R.root R.element R.meaning R.number s

pub record Lawful {W : Type 0} (G : Guarded W) : Type 0 where
  pub above : 3329 < G.p
  pub fits : G.p < 2 ^ 32
  pub prime : Prime G.p
  pub least : 1 ≤ G.t
  pub most : G.t ≤ 255
  -- the root: -1 halfway through its powers, and 17 modulo 3329
  pub halfway : (G.w ^ 128 + 1) % (3329 * G.p) ≡ 0
  pub coefficient_root : G.w % 3329 ≡ 17
  -- each meaning has exactly t elements, numbered from 0 to t - 1
  pub below : (v : W) → G.element v ≡ true → G.meaning v < 3329 * G.p
  pub numbered : (v : W) → G.element v ≡ true → G.number v < G.t
  pub exists : (x k : ℕ) → x < 3329 * G.p → k < G.t → (v : W) × ((G.element v ≡ true) × ((G.meaning v ≡ x) × (G.number v ≡ k)))
  pub unique : (u v : W) → G.element u ≡ true → G.element v ≡ true → G.meaning u ≡ G.meaning v → G.number u ≡ G.number v → u ≡ v

-- v is lift(s, c, k): element number k of the meaning that leaves s by 3329 and c by p
pub record Lifted {W : Type 0} (G : Guarded W) (s c k : ℕ) (v : W) : Type 0 where
  pub element : G.element v ≡ true
  pub coefficient : G.meaning v % 3329 ≡ s
  pub check : G.meaning v % G.p ≡ c
  pub number : G.number v ≡ k

-- lift and split undo each other: what is lifted from an element's remainders and number is that element, and what is lifted from
-- any remainders leaves them
pub record RoundTrips {W : Type 0} (G : Guarded W) : Type 0 where
  pub lift_of_split : (u v : W) → G.element v ≡ true → Lifted G (G.meaning v % 3329) (G.meaning v % G.p) (G.number v) u → u ≡ v
  pub split_of_lift : (s c k : ℕ) (v : W) → Lifted G s c k v → (G.meaning v % 3329 ≡ s) × (G.meaning v % G.p ≡ c)
