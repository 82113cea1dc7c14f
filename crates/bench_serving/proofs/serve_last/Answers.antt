-- `bench_serving::serve_last` meets its contract: the input ends, and with it the last line.
use Rattle.bench_serving.specs.Held.{emptied}
use Rattle.bench_serving.proofs.Filled.{last_held}
use Rattle.bench_serving.proofs.serve_last.Goals as goal

pub returns : goal.returns
returns c = last_held _ (emptied c.args.place) _ _ _ _ c.no_line-next.ensures c.finish-last.ensures c.serve_end.ensures
