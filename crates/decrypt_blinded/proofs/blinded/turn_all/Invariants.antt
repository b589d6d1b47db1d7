use Rattle.std.proofs.Common.{◌≡◌, ℕ, List, length}
use Rattle.histories.specs.Serves.{put}
use Rattle.histories.specs.Ledger.{Held, holds}
use Rattle.histories.specs.Tracked.{Tracked}
use Rattle.records.specs.Tables.{state}
use Rattle.decryption.proofs.Chunks.{Left}
use Rattle.decrypt_blinded.specs.Steps.{layers_before}
use Rattle.decrypt_blinded.proofs.Stepping.{ring_model, layers_now}
use Rattle.decrypt_blinded.proofs.blinded.turn_all.Given as goal

abbrev pub invariant-loop-list : goal.invariant-loop-list
invariant-loop-list g l =
    let M = ring_model g.G.Ring g.G.GuardedRing l.initial.space.ring in
    let n = length l.yielded in
    (l.space.ring ≡ l.initial.space.ring)
    × Left 16 n l.masks l.list-iterator
    × ((L : ℕ → Held) (f : List ℕ) → L l.r ≡ holds f (layers_before l.way) → Tracked M (state l.initial.space.table) l.initial.words L →
    Tracked M (state l.space.table) l.words (put l.r (holds f (layers_now l.way n)) L))
