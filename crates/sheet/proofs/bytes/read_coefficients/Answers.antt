use Rattle.std.proofs.Common.{◌≡◌, ◌*◌, refl, ap, ◌∙◌, arith, rules}
use Rattle.sheet.specs.Bytes.{two_at}
use Rattle.sheet.proofs.Made.{each}
use Rattle.sheet.proofs.bytes.read_coefficients.Goals as goal

pub returns-clause-written : goal.returns-clause-written
returns-clause-written c =
    let bytes = c.args.bytes.now in
    let made = c.from_fn.ensures.items in
    record {
      size = made.long;
      each = λ k h. each _ (λ p. p.0.now ≡ bytes) (λ i x. x ≡ two_at bytes (2 * i))
          (λ p q i y e s. let m = s.met in let r : y ≡ two_at p.0.now (2 * i) = search rules in (ap (λ b. b.now) m.1 ∙ e, r ∙ ap (λ xs. two_at xs (2 * i)) e))
          _ c.from_fn.result 0 0 256 k refl made.each (omega arith) h;
    }
