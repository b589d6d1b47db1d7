-- Each accepted call takes a workspace that nothing has struck to the next ledger.
use Rattle.std.proofs.Common.{◌≡◌, ℕ, Bool, true, false, cond, eqb, List, [], ◌∷◌, length, refl, ap, ◌∙◌}
use Rattle.guarded.specs.Model.{Guarded}
use Rattle.histories.specs.Calls.{State, opened, part, Call, load, turn, join, refresh, clear, release}
use Rattle.histories.specs.Serves.{Answer, is_refused, put, Serves}
use Rattle.histories.specs.Ledger.{Event, opens, goes, Held, nothing, holds, ledger, ledger_after, Reach, unreached, reach, reach_after, either, strike, struck_reach}
use Rattle.histories.specs.Tracked.{Tracked}

pub tracks_opened : {W : Type 0} (G : Guarded W) (words : List W) → length words ≡ 2048 → Tracked G opened words (λ r. nothing)
tracks_opened G words size = record { events = []; history = opens words size; calm = λ r. refl; holding = refl }

-- the call with no strike before it
abbrev pub quiet : {W : Type 0} → List W → Call → Answer → Event W
quiet words c answer = record { left = words; found = words; struck = λ r. false; lent = length words; call = c; answer = answer }

put_calm : {W : Type 0} (d : ℕ) (x : Reach W) (R : ℕ → Reach W) → x ≡ unreached → ((r : ℕ) → R r ≡ unreached) → (r : ℕ) → put d x R r ≡ unreached
put_calm {W} d x R e h r = go (eqb r d)
  where
    go : (b : Bool) → cond b x (R r) ≡ unreached
    go true = e
    go false = h r

stays_calm : {W : Type 0} (c : Call) (R : ℕ → Reach W) → ((r : ℕ) → R r ≡ unreached) → (r : ℕ) → reach_after c R r ≡ unreached
stays_calm (load kind d xs c bytes) R h r = put_calm d unreached R refl h r
stays_calm (turn way d masks) R h r = h r
stays_calm (join o d a b) R h r = put_calm d (either (R a) (R b)) R (rw (h a, h b) refl) h r
stays_calm (refresh d bytes) R h r = h r
stays_calm (clear d) R h r = put_calm d unreached R refl h r
stays_calm (release d out scratch) R h r = h r

unstruck : {W : Type 0} (H : Held) (R : Reach W) (before after : List W) → struck_reach H false R before after ≡ R
unstruck nothing R before after = refl
unstruck (holds f l) R before after = refl

module _ {W : Type 0} (G : Guarded W) (s s' : State) (words words' : List W) (L : ℕ → Held) (size : length words ≡ 2048) where
  pub tracks_on : (c : Call) (answer : Answer) → is_refused answer ≡ false → Serves G s (length words) (part words) c answer s' (part words') →
      Tracked G s words L → Tracked G s' words' (ledger_after c L)
  tracks_on c answer ok served t =
      let e = quiet words c answer in
      let es = t.events in
      record {
        events = e ∷ es;
        history = goes t.history e refl size (λ r h. refl) s' words' served;
        calm = λ r. rw ok (stays_calm c (strike e es (reach es)) (λ q. unstruck (ledger es q) (reach es q) (part words q) (part words q) ∙ t.calm q) r);
        holding = rw ok (ap (λ (M : ℕ → Held). ledger_after c M) t.holding);
      }
