use mathlib.Core.Path.{sym, ap, ◌∙◌}
use Rattle.bench_run.specs.Bench.{bench_call}
use Rattle.bench_calls.proofs.serve.Goals as goal

pub returns-in-Transaction : goal.returns-in-Transaction
unfolding bench_call
returns-in-Transaction c = c.transaction_call.ensures ∙ ap (bench_call _) (sym c.in-Transaction.is)

pub returns-in-Lock : goal.returns-in-Lock
unfolding bench_call
returns-in-Lock c = c.lock_call.ensures ∙ ap (bench_call _) (sym c.in-Lock.is)

pub returns-in-Object : goal.returns-in-Object
unfolding bench_call
returns-in-Object c = c.object_call.ensures ∙ ap (bench_call _) (sym c.in-Object.is)

pub returns-in-Stability : goal.returns-in-Stability
unfolding bench_call
returns-in-Stability c = c.stability_call.ensures ∙ ap (bench_call _) (sym c.in-Stability.is)

pub returns-in-Collection : goal.returns-in-Collection
unfolding bench_call
returns-in-Collection c = c.pass_call.ensures ∙ ap (bench_call _) (sym c.in-Collection.is)

pub returns-in-Reopening : goal.returns-in-Reopening
unfolding bench_call
returns-in-Reopening c = c.reopening_call.ensures ∙ ap (bench_call _) (sym c.in-Reopening.is)

pub returns-in-NoCall : goal.returns-in-NoCall
unfolding bench_call
returns-in-NoCall c = ap (bench_call _) (sym c.in-NoCall.is)
