-- `bench::take_chunk` meets its contract: the output lines of the bytes read have room and are what is written, and the bytes lead further.
use Rattle.std.proofs.Common.{arith, sym, length-take, length-take-le}
use Rattle.bench_serving.specs.Laws.{served_within}
use Rattle.bench_serving.specs.Held.{lines_held}
use Rattle.bench.specs.Turns.{of_bytes, reached_more}
use Rattle.bench.proofs.take_chunk.Goals as goal

pub slice_bounds-out-end : goal.slice_bounds-out-end
slice_bounds-out-end c = (lines_held _ _ _ _ _ (served_within _ _) (omega (arith, length-take c.unwrap_or-n.result c.read_chunk-got.new.buf, c.read_chunk-got.auto.buf)) c.serve_bytes-at.ensures).0

pub slice_bounds-put-end : goal.slice_bounds-put-end
slice_bounds-put-end c = sym (length-take-le _ _ (lines_held _ _ _ _ _ (served_within _ _) (omega (arith, length-take c.unwrap_or-n.result c.read_chunk-got.new.buf, c.read_chunk-got.auto.buf)) c.serve_bytes-at.ensures).0)

pub put-written-requires : goal.put-written-requires
put-written-requires c = of_bytes _ _ _ c.requires (lines_held _ _ _ _ _ (served_within _ _) (omega (arith, length-take c.unwrap_or-n.result c.read_chunk-got.new.buf, c.read_chunk-got.auto.buf)) c.serve_bytes-at.ensures).1

pub returns : goal.returns
returns c = λ n r. reached_more _ _ _ n _ _ r (omega (arith, length-take c.unwrap_or-n.result c.read_chunk-got.new.buf, c.read_chunk-got.auto.buf)) c.serve_bytes-at.ensures
