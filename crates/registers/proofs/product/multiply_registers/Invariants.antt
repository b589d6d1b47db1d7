use Rattle.std.proofs.Common.{ℕ, ◌*◌, map}
use Rattle.algebra.specs.Polynomials.{coefficient}
use Rattle.histories.specs.Calls.{part}
use Rattle.registers.proofs.Rows.{Filled}
use Rattle.registers.proofs.Slots.{Multiplied}
use Rattle.registers.proofs.product.multiply_registers.Given as goal

abbrev pub invariant-loop-slot : goal.invariant-loop-slot
invariant-loop-slot g l =
    let r = g.G.Ring in
    let s = l.ring in
    let meanings = λ (q : ℕ). coefficient (map (r.meaning s) (part l.initial.words q)) in
    Filled (256 * l.fn.join.d.number) (2 * l.slot) (Multiplied (r.element s) (r.meaning s) (r.modulus s) (r.root s) (meanings l.fn.join.a.number) (meanings l.fn.join.b.number))
    l.initial.words l.words
