-- `bench::take_last` meets its contract: the output line of the last line has room and is what is written.
use Rattle.std.proofs.Common.{arith, sym, length-take-le}
use Rattle.bench_serving.specs.Laws.{last_within}
use Rattle.bench_serving.specs.Held.{lines_held}
use Rattle.bench.specs.Turns.{of_last}
use Rattle.bench.proofs.take_last.Goals as goal

pub slice_bounds-out-end : goal.slice_bounds-out-end
slice_bounds-out-end c = (lines_held _ _ _ _ _ (last_within _) (omega arith) c.serve_last-next.ensures).0

pub slice_bounds-put-end : goal.slice_bounds-put-end
slice_bounds-put-end c = sym (length-take-le _ _ (lines_held _ _ _ _ _ (last_within _) (omega arith) c.serve_last-next.ensures).0)

pub put-requires : goal.put-requires
put-requires c = of_last _ _ c.requires (lines_held _ _ _ _ _ (last_within _) (omega arith) c.serve_last-next.ensures).1
