use Rattle.std.proofs.Common.{◌≡◌, ◌<◌, true, length, arith}
use Rattle.std.proofs.lemmas.Bool.Decides.{nat_tests}
use Rattle.algebra.specs.Masks.{is_list_length}
use Rattle.engine.proofs.Lookups.{width_is, width_low}
use Rattle.engine.proofs.masks.Masks.new.Goals.{in-0, in_default}
use Rattle.engine.proofs.masks.Masks.new.Goals as goal

pub invariant_of-result : goal.invariant_of-result
invariant_of-result c = elim c.match-bytes.branch [
  | in-0 w ↦ record { width = λ some. absurd (omega arith); small = omega arith }
  | in_default w ↦
      let some : 0 < length c.args.bytes.now = omega arith in
      let is : is_list_length (length c.args.bytes.now) ≡ true = grind (arith, nat_tests) in
      record { width = λ _. rw w.shift-is (width_is _ is); small = rw w.shift-is (width_low _ is) }
]
