use Prim.Native.Nat.{ℕ}
use mathlib.Core.Path.{◌≡◌, subst}
use native.Mathlib.Omega.{arith}
use lib.ListN.{get_or}
use Rattle.engine.proofs.Slots.{rev_small}
use Rattle.guarded.specs.Model.{guarded}
use Rattle.histories.specs.Calls.{checks}
use Rattle.histories.specs.Operations.{inverse_of_128}
use Rattle.histories.proofs.Whole.{checks_root, checks_unit}
use Rattle.witness.specs.Groups.{Groups, SlotsDue}
use Rattle.witness.proofs.Numbers.{slot_root}
use Rattle.witness.proofs.Whole.{slots_more, transform_due_is}
use Rattle.witness.proofs.transformed.transform_due.Goals as goal

pub overflow_mul-reversed : goal.overflow_mul-reversed
overflow_mul-reversed g c = omega (arith, rev_small 7 c.loop-slot.slot, c.reversed.ensures)

pub overflow_add-reversed : goal.overflow_add-reversed
overflow_add-reversed g c = omega (arith, rev_small 7 c.loop-slot.slot, c.reversed.ensures)

pub loop-slot-preserved : goal.loop-slot-preserved
loop-slot-preserved g c =
    let modulus = c.args.modulus.now in
    let w = g.G.Ring.root modulus.ring.now in
    let register = c.args.register in
    let n = c.loop-slot.slot in
    let ones = c.ones_transformed-ones.result in
    let slot = c.slot_due-first in
    slots_more modulus.p.number w register.a register.b n slot.result.0 slot.result.1 ones c.loop-slot.numbers (omega arith) c.loop-slot.invariant
    (slot_root modulus.p.number w register.a register.b (get_or ones n 0) n c.reversed.result c.root_power-c.result slot.result.0
    (omega arith) c.reversed.ensures c.root_power-c.ensures slot.ensures.first)
    slot.ensures.second

pub returns : goal.returns
returns g c =
    let modulus = c.args.modulus.now in
    let r = g.G.Ring in
    let h = g.G.GuardedRing in
    let s = modulus.ring.now in
    let model = guarded h.check h.redundancy r.root r.element r.meaning h.number s in
    let law = g.met.G.GuardedRing.lawful s in
    let register = c.args.register in
    let ones = c.ones_transformed-ones.result in
    let numbers = c.loop-slot.numbers in
    let end : c.loop-slot.slot ≡ 128 = omega arith in
    let slots : SlotsDue modulus.p.number (r.root s) register.a register.b 128 ones numbers =
    subst (λ (n : ℕ). SlotsDue modulus.p.number (r.root s) register.a register.b n ones numbers) end c.loop-slot.invariant in
    transform_due_is (h.check s) (r.root s) (inverse_of_128 (checks model)) register.a register.b ones numbers (omega (arith, law.above))
    (checks_root model law) (checks_unit model law)
    (subst (λ (p : ℕ). Groups p (r.root s) 7 ones) modulus.checks c.ones_transformed-ones.ensures) (omega arith)
    (subst (λ (p : ℕ). SlotsDue p (r.root s) register.a register.b 128 ones numbers) modulus.checks slots)
