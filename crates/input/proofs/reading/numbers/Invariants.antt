use Rattle.std.proofs.Common.{Ok}
use Rattle.std.specs.List.{AllZip}
use Rattle.input.proofs.reading.numbers.Given as goal

abbrev pub invariant-loop-word : goal.invariant-loop-word
invariant-loop-word g l = AllZip (λ word x. g.T.FromStr.from_str_gives word.now (Ok x)) l.yielded l.all.items
