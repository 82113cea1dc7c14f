use mathlib.Core.Path.{ap, ◌∙◌}
use Rattle.calls.specs.Calls.{perform}
use Rattle.calls.specs.Objects.{call_flush}
use Rattle.bench_run.specs.Bench.{object_call, page_sent}
use Rattle.bench_objects.proofs.flush_received.Goals as goal

pub returns : goal.returns
unfolding object_call perform page_sent
returns c = c.flush.ensures ∙ ap (call_flush _ _ _) c.page_sent-image.ensures
