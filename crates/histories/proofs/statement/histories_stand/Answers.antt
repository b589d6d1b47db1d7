use Rattle.histories.proofs.Whole.{whole}
use Rattle.histories.proofs.statement.histories_stand.Goals as goal

pub returns : goal.returns
returns g c = whole _ _
