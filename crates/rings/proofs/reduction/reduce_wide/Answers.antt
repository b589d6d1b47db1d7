use Rattle.std.proofs.Common.{◌*◌, ◌/◌, ◌^◌, arith, lit<, rules}
use Rattle.algebra.proofs.Reciprocal.{quotient_low, quotient_high, rest_below, rest_above}
use Rattle.rings.proofs.reduction.reduce_wide.Goals as goal

pub overflow_mul-rest : goal.overflow_mul-rest
overflow_mul-rest c = omega (arith, quotient_low (2 ^ 64) c.args.m c.args.x c.args.r c.requires.reciprocal (lit< tt))

pub overflow_sub-rest : goal.overflow_sub-rest
overflow_sub-rest c = quotient_low (2 ^ 64) c.args.m c.args.x c.args.r c.requires.reciprocal (lit< tt)

pub overflow_cast-result-else-rest-m : goal.overflow_cast-result-else-rest-m
overflow_cast-result-else-rest-m c =
    omega (arith, quotient_high (2 ^ 64) c.args.m c.args.x c.args.r c.requires.reciprocal c.requires.some (search rules))

pub returns-then-rest-m : goal.returns-then-rest-m
returns-then-rest-m c =
    rest_below c.args.x ((c.args.x * c.args.r) / 2 ^ 64) c.args.m
    (quotient_low (2 ^ 64) c.args.m c.args.x c.args.r c.requires.reciprocal (lit< tt))
    (search rules)

pub returns-else-rest-m : goal.returns-else-rest-m
returns-else-rest-m c =
    rest_above c.args.x ((c.args.x * c.args.r) / 2 ^ 64) c.args.m
    (quotient_low (2 ^ 64) c.args.m c.args.x c.args.r c.requires.reciprocal (lit< tt))
    (search rules)
    (quotient_high (2 ^ 64) c.args.m c.args.x c.args.r c.requires.reciprocal c.requires.some (search rules))
