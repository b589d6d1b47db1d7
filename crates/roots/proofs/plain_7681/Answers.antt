use Rattle.algebra.proofs.Tables.{power_at}
use Rattle.roots.proofs.plain_7681.Goals as goal

pub returns : goal.returns
returns c = record { at = power_at 3844 7681 }
