-- `bench_serving::tell` meets its contract: the output line of an answer, and the place past it.
use Rattle.bench_serving.proofs.Filled.{line_told}
use Rattle.bench_serving.proofs.tell.Goals as goal

pub returns : goal.returns
returns c = line_told c.args.place c.args.a _ _ _ _ _ c.answer_of-answer.ensures c.value_of-value.ensures c.put_line-end.ensures
