use Rattle.algebra.proofs.Reduction.{ntt_reduces}
use Rattle.algebra.proofs.remainders_pass.Goals as goal

pub returns : goal.returns
returns c = ntt_reduces
