use Prim.Native.Nat.{ℕ}
use mathlib.Core.Path.{◌≡◌, subst}
use native.Mathlib.Omega.{arith}
use borrow.Author.Count.{below_none}
use Rattle.histories.specs.Operations.{witness}
use Rattle.witness.proofs.Coefficients.{value_first, value_next, values_more, coefficients_are}
use Rattle.witness.proofs.natural.coefficients_due.Goals as goal

pub loop-number-init : goal.loop-number-init
loop-number-init g c =
    (rw c.remainder-x.ensures (value_first c.args.modulus.now.p.number c.args.register.a c.args.register.b (omega arith)), below_none _)

pub loop-number-preserved : goal.loop-number-preserved
loop-number-preserved g c =
    let p = c.args.modulus.now.p.number in
    let register = c.args.register in
    let k = c.loop-number.number-index in
    let x = c.loop-number.x in (
      rw c.sum-x.ensures (value_next p register.a register.b k x c.remainder-step.result (omega arith) c.loop-number.invariant.0 c.remainder-step.ensures),
      values_more p register.a register.b k x c.loop-number.numbers (omega arith) c.loop-number.invariant.0 c.loop-number.invariant.1,
    )

pub returns : goal.returns
returns g c =
    let modulus = c.args.modulus.now in
    let w = g.G.Ring.root modulus.ring.now in
    let register = c.args.register in
    let numbers = c.loop-number.numbers in
    subst (λ (p : ℕ). numbers ≡ witness (record { modulus = p; root = w }) register.a register.b) modulus.checks
    (coefficients_are modulus.p.number w register.a register.b numbers (omega arith) (omega arith) (λ k l. c.loop-number.invariant.1 k (omega arith)))
