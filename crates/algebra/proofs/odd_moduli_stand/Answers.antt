use Rattle.algebra.proofs.Theorems.{odd_moduli}
use Rattle.algebra.proofs.odd_moduli_stand.Goals as goal

pub returns : goal.returns
returns c = odd_moduli
