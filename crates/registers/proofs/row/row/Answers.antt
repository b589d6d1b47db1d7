use Rattle.histories.proofs.Basics.{part_size}
use Rattle.registers.proofs.Rows.{lent_part}
use Rattle.registers.proofs.row.row.Goals as goal

pub returns : goal.returns
returns g c = record {
  words = lent_part c.args.words.now c.args.r.number;
  size = rw (lent_part c.args.words.now c.args.r.number) (part_size c.args.words.now c.requires c.args.r.number c.args.r.known);
}
