use mathlib.Core.Path.{sym, ap, ◌∙◌}
use Rattle.calls.specs.Calls.{perform}
use Rattle.bench_run.specs.Bench.{rights_again, reopening_call}
use Rattle.bench_calls.proofs.reopen.reopening_call.Goals as goal

pub returns-in-Reopen : goal.returns-in-Reopen
unfolding reopening_call perform
returns-in-Reopen c = c.reopen.ensures ∙ ap (reopening_call _) (sym c.in-Reopen.is)

pub returns-in-Restep : goal.returns-in-Restep
unfolding reopening_call perform
returns-in-Restep c = c.give_again.ensures ∙ ap rights_again c.restep-a.ensures ∙ ap (reopening_call _) (sym c.in-Restep.is)
