use mathlib.Core.Path.{sym, ap, ◌∙◌}
use Rattle.calls.specs.Calls.{perform}
use Rattle.bench_run.specs.Bench.{object_call}
use Rattle.bench_objects.proofs.object_call.Goals as goal

pub returns-in-Flush : goal.returns-in-Flush
unfolding object_call perform
returns-in-Flush c = c.flush_received.ensures ∙ ap (object_call _) (sym c.in-Flush.is)

pub returns-in-Read : goal.returns-in-Read
unfolding object_call perform
returns-in-Read c = c.read_object.ensures ∙ ap (object_call _) (sym c.in-Read.is)

pub returns-in-Create : goal.returns-in-Create
unfolding object_call perform
returns-in-Create c = c.create.ensures ∙ ap (object_call _) (sym c.in-Create.is)

pub returns-in-Set : goal.returns-in-Set
unfolding object_call perform
returns-in-Set c = c.set_word.ensures ∙ ap (object_call _) (sym c.in-Set.is)
