use Rattle.algebra.specs.Layers.{bitrev}
use Rattle.algebra.proofs.Tables.{tabulated_at}
use Rattle.engine.proofs.index.reversed.Goals as goal

pub returns : goal.returns
unfolding bitrev
returns c = tabulated_at (bitrev 7) 128 c.args.x c.requires
