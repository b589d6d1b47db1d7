use borrow.Author.Rules.{rules}
use Rattle.algebra.proofs.Remainders.{less_up, less_down}
use Rattle.witness.proofs.modulus.Modulus.difference.Goals as goal

pub returns-then-a-b : goal.returns-then-a-b
returns-then-a-b g c = less_up c.args.a c.args.b c.args.self.now.p.number (search rules) c.requires.1

pub returns-else-a-b : goal.returns-else-a-b
returns-else-a-b g c = less_down c.args.a c.args.b c.args.self.now.p.number c.requires.0 (search rules)
