use Rattle.algebra.proofs.Tables.{power_at}
use Rattle.roots.proofs.joint_7681.Goals as goal

pub returns : goal.returns
returns c = record { at = power_at 1424829 25570049 }
