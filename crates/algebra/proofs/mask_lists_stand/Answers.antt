use Rattle.algebra.proofs.Theorems.{mask_lists}
use Rattle.algebra.proofs.mask_lists_stand.Goals as goal

pub returns : goal.returns
returns c = mask_lists
