use Rattle.std.proofs.Common.{◌≡◌, length}
use Rattle.std.specs.Iterator.Adapters.{zip_first, zip_second}
use Rattle.histories.specs.Tracked.{Keeps}
use Rattle.records.specs.Tables.{state}
use Rattle.decrypt_blinded.specs.Steps.{products}
use Rattle.decrypt_blinded.proofs.Walking.{Walked}
use Rattle.decrypt_blinded.proofs.Stepping.{ring_model}
use Rattle.decrypt_blinded.proofs.blinded.sum_products.Given as goal

-- since the loop began
abbrev pub invariant-loop-u_i : goal.invariant-loop-u_i
invariant-loop-u_i g l =
    let M = ring_model g.G.Ring g.G.GuardedRing l.initial.space.ring in
    let n = length l.yielded in
    let us = l.blinded.rows.u.now in
    let ss = l.blinded.rows.s.now in
    let factors = zip_first l.u_i-iterator in
    (goal.iterator-loop-u_i g).can_next l.u_i-iterator
    × (goal.iterator-loop-u_i g).is_finite l.u_i-iterator
    × (l.space.ring ≡ l.initial.space.ring)
    × Walked n us ss l.blinded.random.now (zip_first factors) (zip_second factors) (zip_second l.u_i-iterator)
    × (Keeps M (state l.initial.space.table) l.initial.words 2 (products us ss 0) 7 → Keeps M (state l.space.table) l.words 2 (products us ss n) 7)
