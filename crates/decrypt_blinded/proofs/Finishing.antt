-- What is released after a decryption is v minus the sum of the products.
use Rattle.std.proofs.Common.{◌≡◌, ℕ, zero, suc, ◌-◌, ◌<◌, ◌≤◌, false, List, [], length, refl, ap, ◌∙◌, subst, ⊎_elim, arith}
use Rattle.algebra.specs.Congruence.{Same}
use Rattle.algebra.specs.Sum.{sum}
use Rattle.algebra.specs.Polynomials.{coefficient}
use Rattle.algebra.proofs.Modular.{same_of, same_sym, same_add, same_by, ◌⨾◌}
use Rattle.algebra.proofs.Lists.{listed_same, listed_polynomial}
use Rattle.guarded.specs.Model.{Guarded}
use Rattle.histories.specs.declared.register.Form.{Form}
use Rattle.histories.specs.Operations.{sum_of, difference_of}
use Rattle.histories.specs.Calls.{coefficients, State, part, release}
use Rattle.histories.specs.Serves.{Answer, done, given, refused}
use Rattle.histories.specs.Ledger.{Held, nothing, holds, Reads, Reach, reach, ledger, struck_reach}
use Rattle.histories.specs.Tracked.{Keeps}
use Rattle.workspace.specs.Judged.{Judged}
use Rattle.decrypt_blinded.specs.Decryption.{term, Decrypted}
use Rattle.decrypt_blinded.specs.Steps.{products}

numbers : Answer → List ℕ
numbers done = []
numbers (given xs F) = xs
numbers (refused n i) = []

-- a polynomial that the ledger reads is the one released
read : (xs f : List ℕ) (F : Form) → Reads (holds f 0) (given xs F) → xs ≡ f
unfolding numbers
read xs f F h = ⊎_elim (λ a. ap numbers a.1) (λ a. let e = a.0 in absurd (omega arith)) h

unstruck : {W : Type 0} (H : Held) (R : Reach W) (before after : List W) → struck_reach H false R before after ≡ R
unstruck nothing R before after = refl
unstruck (holds f l) R before after = refl

pub released : {R W : Type 0} (M : R → Guarded W) {ρ ρ' : R} {s : State} {words : List W} {f xs : List ℕ} {F : Form} {out scratch : ℕ} →
    ρ' ≡ ρ → Keeps (M ρ) s words 0 f 0 → length words ≡ 2048 → Judged (M ρ') s words (release 0 out scratch) (given xs F) → xs ≡ f
released M {ρ} {ρ'} {s} {words} {f} {xs} {F} {out} {scratch} e kept size judged =
    let t = kept.tracked in
    let es = t.events in
    let J = subst (λ (q : _). Judged (M q) s words (release 0 out scratch) (given xs F)) e judged in
    let reads : Reads (ledger es 0) (given xs F) =
    (J.undisturbed es words (λ r. false) t.history size (λ r h. refl)).hands_out 0 out scratch refl refl
    (unstruck (ledger es 0) (reach es 0) (part words 0) (part words 0) ∙ t.calm 0) in
    read xs f F (subst (λ (H : Held). Reads H (given xs F)) (ap (λ (L : ℕ → Held). L 0) t.holding ∙ kept.here) reads)

-- the list of the sum of products is their sum
summed : (us ss : List ℕ) (k j : ℕ) → j < 256 → Same 3328 (coefficient (products us ss k) j) (sum (suc k) (term us ss j))
unfolding sum sum_of
summed us ss zero j l = same_of (omega arith)
summed us ss (suc k) j l = listed_same _ j l ⨾ same_add (summed us ss k j l) (same_of refl)

restored_by : (us ss v : List ℕ) (k : ℕ) (w : List ℕ) → w ≡ difference_of coefficients v (products us ss k) → Decrypted (suc k) us ss v w
unfolding difference_of
restored_by us ss v k w e =
    rw e (record {
      reduced = listed_polynomial 3328 _;
      restores = λ j l.
          same_add (listed_same _ j l) (same_sym (summed us ss k j l)) ⨾ same_by 0 (coefficient (products us ss k) j) (omega arith);
    })

pub restored : (rank : ℕ) (us ss v w : List ℕ) → 1 ≤ rank → w ≡ difference_of coefficients v (products us ss (rank - 1)) → Decrypted rank us ss v w
restored zero us ss v w h e = absurd (omega arith)
restored (suc k) us ss v w h e =
    let q : suc k - 1 ≡ k = omega arith in
    restored_by us ss v k w (e ∙ ap (λ (n : ℕ). difference_of coefficients v (products us ss n)) q)
