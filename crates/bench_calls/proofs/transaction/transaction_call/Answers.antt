use mathlib.Core.Path.{sym, ap, ◌∙◌}
use Rattle.calls.specs.Calls.{perform}
use Rattle.bench_run.specs.Bench.{transaction_call}
use Rattle.bench_calls.proofs.transaction.transaction_call.Goals as goal

pub returns-in-Begin : goal.returns-in-Begin
unfolding transaction_call perform
returns-in-Begin c = c.begin.ensures ∙ ap (transaction_call _) (sym c.in-Begin.is)

pub returns-in-Commit : goal.returns-in-Commit
unfolding transaction_call perform
returns-in-Commit c = c.commit.ensures ∙ ap (transaction_call _) (sym c.in-Commit.is)

pub returns-in-Abort : goal.returns-in-Abort
unfolding transaction_call perform
returns-in-Abort c = c.abort.ensures ∙ ap (transaction_call _) (sym c.in-Abort.is)
