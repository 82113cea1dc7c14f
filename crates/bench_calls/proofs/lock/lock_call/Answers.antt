use mathlib.Core.Path.{sym, ap, ◌∙◌}
use Rattle.calls.specs.Calls.{perform}
use Rattle.bench_run.specs.Bench.{lock_call}
use Rattle.bench_calls.proofs.lock.lock_call.Goals as goal

pub returns-in-LockRead : goal.returns-in-LockRead
unfolding lock_call perform
returns-in-LockRead c = c.lock_read.ensures ∙ ap (lock_call _) (sym c.in-LockRead.is)

pub returns-in-LockWrite : goal.returns-in-LockWrite
unfolding lock_call perform
returns-in-LockWrite c = c.lock_write.ensures ∙ ap (lock_call _) (sym c.in-LockWrite.is)
