use Rattle.std.proofs.Common.{◌+◌, ◌<◌, rules, arith}
use Rattle.algebra.specs.Congruence.{Same}
use Rattle.algebra.specs.Polynomials.{coefficient}
use Rattle.decryption.proofs.Calls.{made}
use Rattle.decrypt.proofs.arithmetic.subtract.Goals as goal

pub returns-clause-below : goal.returns-clause-below
returns-clause-below c = record {
  size = c.from_fn.ensures.items.long;
  small = λ j h. (made _ _ (λ k x. x < 3329) (λ k x q call. search rules) _ 0 256 c.from_fn.ensures.items.each j (omega arith) (omega arith));
}

pub returns-clause-restores : goal.returns-clause-restores
returns-clause-restores c = λ j h.
    made _ _ (λ k x. Same 3328 (x + coefficient c.args.p.now k) (coefficient c.args.w.now k)) (λ k x q call. search rules) _ 0 256
    c.from_fn.ensures.items.each j (omega arith) (omega arith)
