use Rattle.std.proofs.Common.{length, arith}
use Rattle.std.proofs.lemmas.Bool.Decides.{nat_tests}
use Rattle.engine.proofs.Lookups.{length_is_power}
use Rattle.engine.proofs.masks.suit.Goals as goal

pub returns-then-list-le128 : goal.returns-then-list-le128
returns-then-list-le128 c = grind (arith, nat_tests, length_is_power (length c.args.list.now) (omega arith))
