-- The theorem over every history of calls and strikes, for every guarded ring.
use Rattle.std.specs.Prelude.{◌≡◌, ℕ, ◌/◌, Bool, true, false, ◌&&◌, ◌||◌, List, [], ◌∷◌, map, ◌==◌, ◌≢◌, nat_le}
use Rattle.std.proofs.Math.Option.{Option, none, some}
use Rattle.algebra.specs.declared.Direction.{Direction}
use Rattle.rings.specs.Refusals.{flaw}
use Rattle.guarded.specs.Model.{Guarded, Lawful}
use Rattle.histories.specs.Calls.{State, Kind, Operation, Call, load, turn, join, refresh, clear, release, differ, residues}
use Rattle.histories.specs.Serves.{Answer, done, given, refused, is_refused}
use Rattle.histories.specs.Ledger.{Event, History, ledger, Reads, unreached, reached, reach_at, Single}

-- (a) No word of an unreached register is refused as stray, no release of it as fault; its accepted release hands out and answers what
-- the ledger reads
pub record Undisturbed {W : Type 0} (e : Event W) (es : List (Event W)) : Type 0 where
  pub no_stray : (i : ℕ) → e.answer ≡ refused 26 i → reach_at e es (i / 256) ≢ unreached
  pub no_fault : (r out scratch k : ℕ) → e.call ≡ release r out scratch → e.answer ≡ refused 27 k → reach_at e es r ≢ unreached
  pub hands_out : (r out scratch : ℕ) → e.call ≡ release r out scratch → is_refused e.answer ≡ false → reach_at e es r ≡ unreached →
      Reads (ledger es r) e.answer

-- (b) Where no reached register is struck again and no accepted call takes two reached operands, a release of a reached register that
-- passes all checks up to FORM is refused exactly when its strike left a word that is no element or changed some word's remainder by p

-- refused at FORM or before
abbrev pub early : Answer → Bool
early done = false
early (given xs F) = false
early (refused n i) = nat_le n 21

abbrev pub found : Option ℕ → Bool
found none = false
found (some k) = true

-- a word after the strike is no element, or some remainder by p differs
abbrev pub spoiled : {W : Type 0} → Guarded W → (before after : List W) → Bool
spoiled G before after = found (flaw G.element after) || found (differ (residues G before) (residues G after))

abbrev pub Detected : {W : Type 0} → Guarded W → Event W → List (Event W) → Type 0
Detected {W} G e es =
    (r out scratch : ℕ) (before after : List W) → Single (e ∷ es) → e.call ≡ release r out scratch →
    reach_at e es r ≡ reached before after → early e.answer ≡ false → is_refused e.answer ≡ spoiled G before after

-- (c) Two unstruck workspaces with one check modulus that get the same calls but for ring, masks and redundancy bytes, and of which no
-- mask list or redundancy slice is refused, answer alike and release the same numbers

pub data Like : Call → Call → Type 0 where
  load_like : (kind : Kind) (r : ℕ) (xs : List ℕ) (c : ℕ) (bytes bytes' : List ℕ) → Like (load kind r xs c bytes) (load kind r xs c bytes')
  turn_like : (way : Direction) (r : ℕ) (masks masks' : List ℕ) → Like (turn way r masks) (turn way r masks')
  join_like : (o : Operation) (d a b : ℕ) → Like (join o d a b) (join o d a b)
  refresh_like : (r : ℕ) (bytes bytes' : List ℕ) → Like (refresh r bytes) (refresh r bytes')
  clear_like : (r : ℕ) → Like (clear r) (clear r)
  release_like : (r out scratch : ℕ) → Like (release r out scratch) (release r out scratch)

-- the position of the redundancy slice
abbrev pub is_redundancy_slice : Call → (position : ℕ) → Bool
is_redundancy_slice (load kind r xs c bytes) i = i == 2
is_redundancy_slice (turn way r masks) i = false
is_redundancy_slice (join o d a b) i = false
is_redundancy_slice (refresh r bytes) i = i == 1
is_redundancy_slice (clear r) i = false
is_redundancy_slice (release r out scratch) i = false

-- a mask list is refused (23), or a redundancy slice, for a byte (7) or for its length (1)
abbrev pub blames : Call → Answer → Bool
blames c done = false
blames c (given xs F) = false
blames c (refused n i) = n == 23 || (n == 7 || (n == 1 && is_redundancy_slice c i))

pub record Calm {W : Type 0} (e : Event W) : Type 0 where
  pub unstruck : (r : ℕ) → e.struck r ≡ false
  pub unblamed : blames e.call e.answer ≡ false

pub data Twins {V W : Type 0} : List (Event V) → List (Event W) → Type 0 where
  start : Twins [] []
  also : {d : Event V} {e : Event W} {ds : List (Event V)} {es : List (Event W)} → Twins ds es → Calm d → Calm e →
      d.lent ≡ e.lent → Like d.call e.call → Twins (d ∷ ds) (e ∷ es)

abbrev pub answers : {W : Type 0} → List (Event W) → List Answer
answers es = map (λ e. e.answer) es

abbrev pub Alike : {V W : Type 0} → Guarded V → Guarded W → Type 0
Alike {V} {W} G H =
    (ds : List (Event V)) (es : List (Event W)) (s s' : State) (vs : List V) (ws : List W) →
    History G ds s vs → History H es s' ws → Twins ds es → answers ds ≡ answers es

-- the whole
pub record Stands {V W : Type 0} (G : Guarded V) (H : Guarded W) : Type 0 where
  pub undisturbed : (e : Event V) (es : List (Event V)) (s : State) (words : List V) → History G (e ∷ es) s words → Undisturbed e es
  pub detected : (e : Event V) (es : List (Event V)) (s : State) (words : List V) → History G (e ∷ es) s words → Detected G e es
  pub alike : G.p ≡ H.p → Alike G H

abbrev pub Theorem : (V W : Type 0) → Type 0
Theorem V W = (G : Guarded V) (H : Guarded W) → Lawful G → Lawful H → Stands G H
