use Rattle.passes.specs.Stepping.{start_runs, start_idle}
use Rattle.passes.proofs.start_check.Goals as goal

pub returns-then-work-ne0 : goal.returns-then-work-ne0
returns-then-work-ne0 c = start_runs _ c.if-work-ne0.true

pub returns : goal.returns
returns c = start_idle _ c.if-work-ne0.false
