use borrow.Author.Rules.{rules}
use Rattle.algebra.proofs.Remainders.{add_low, add_high}
use Rattle.witness.proofs.modulus.Modulus.sum.Goals as goal

pub returns-then-a-gap : goal.returns-then-a-gap
returns-then-a-gap g c = add_low c.args.a c.args.b c.args.self.now.p.number c.requires.1 (search rules)

pub returns-else-a-gap : goal.returns-else-a-gap
returns-else-a-gap g c = add_high c.args.a c.args.b c.args.self.now.p.number c.requires.0 c.requires.1 (search rules)
