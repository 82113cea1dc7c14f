use Rattle.calls.specs.Calls.{perform}
use Rattle.bench_run.specs.Bench.{object_call, page_sent}
use Rattle.bench_objects.proofs.read_object.Goals as goal

pub returns : goal.returns
unfolding object_call perform page_sent
returns c = c.read.ensures.work_after
