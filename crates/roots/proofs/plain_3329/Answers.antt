use Rattle.algebra.proofs.Tables.{power_at}
use Rattle.roots.proofs.plain_3329.Goals as goal

pub returns : goal.returns
returns c = record { at = power_at 17 3329 }
