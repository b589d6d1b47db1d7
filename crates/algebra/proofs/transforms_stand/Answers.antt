use Rattle.algebra.proofs.Theorems.{transforms}
use Rattle.algebra.proofs.transforms_stand.Goals as goal

pub returns : goal.returns
returns c = transforms
