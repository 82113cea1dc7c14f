-- `bench_serving::serve_byte` meets its contract: what the byte makes of the line, and the line that it ends.
use Rattle.bench_serving.proofs.Filled.{byte_held}
use Rattle.bench_serving.proofs.serve_byte.Goals as goal

pub returns : goal.returns
returns c = byte_held _ c.args.place _ _ _ _ c.feed-fed.ensures c.serve_end.ensures
