use Rattle.std.proofs.Common.{rules}
use Rattle.std.proofs.lemmas.Result.{err_from_is_err_and}
use Rattle.std.proofs.lemmas.Slice.Zip.{all_zipped_more}
use Rattle.input.proofs.reading.numbers.Goals as goal

pub returns-in_err-parse : goal.returns-in_err-parse
returns-in_err-parse g c =
    let p = err_from_is_err_and c.from_residual.result c.from_residual.ensures.1 in
    rw (p.1, p.2) (
      c.loop-word.all.items,
      c.in-Some.word,
      record {
        words = c.loop-word.yielded;
        begins = record { start = c.into_iter-word-iterator.result; left = c.next.new.self; whole = search rules; splits = (c.loop-word.word-iterator, c.loop-word.yielded_by, c.in-Some.ensures.steps) };
        numbers = c.loop-word.invariant;
      },
      c.in_err-parse.ensures.value,
    )

pub loop-word-preserved : goal.loop-word-preserved
loop-word-preserved g c = rw c.in_ok-push.ensures.items (all_zipped_more _ _ _ _ _ c.loop-word.invariant c.in_ok-parse.ensures.value)

pub returns : goal.returns
returns g c = record {
  words = c.loop-word.yielded;
  begins = record { start = c.into_iter-word-iterator.result; left = c.next.new.self; whole = search rules; splits = (c.loop-word.word-iterator, c.loop-word.yielded_by, c.in-None.ensures.steps) };
  numbers = c.loop-word.invariant;
}
