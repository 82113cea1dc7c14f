-- `bench_serving::serve_end` meets its contract: no line ended, or its call and its output line.
use Rattle.bench_serving.proofs.Filled.{none_held, line_held}
use Rattle.bench_serving.proofs.serve_end.Goals as goal

pub returns-in-None : goal.returns-in-None
returns-in-None c = none_held _ _ _ _ c.in-None.is

pub returns-in-Some : goal.returns-in-Some
returns-in-Some c = line_held _ _ _ _ _ _ _ _ _ c.in-Some.is c.serve-a.ensures c.tell.ensures
