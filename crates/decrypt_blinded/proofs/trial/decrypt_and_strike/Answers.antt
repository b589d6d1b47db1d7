use Rattle.std.proofs.Common.{ℕ, sym, subst}
use Rattle.histories.specs.Calls.{State}
use Rattle.histories.specs.Ledger.{nothing}
use Rattle.histories.specs.Tracked.{Tracked}
use Rattle.histories.proofs.Tracking.{tracks_opened}
use Rattle.decrypt_blinded.proofs.Stepping.{ring_model}
use Rattle.decrypt_blinded.proofs.trial.decrypt_and_strike.Goals as goal

pub returns : goal.returns
returns g c =
    let M = ring_model g.G.Ring g.G.GuardedRing c.args.space.now.ring in
    let words = c.args.words.now in
    c.in_ok-decrypt.ensures.right (λ (q : ℕ). nothing)
    (subst (λ (s : State). Tracked M s words (λ (q : ℕ). nothing)) (sym c.requires.opened) (tracks_opened M words c.requires.size))
