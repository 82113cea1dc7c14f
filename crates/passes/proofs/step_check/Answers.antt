use Rattle.passes.specs.Stepping.{step_idle, step_runs}
use Rattle.passes.proofs.step_check.Goals as goal

pub returns-then-work-eq0 : goal.returns-then-work-eq0
returns-then-work-eq0 c = step_idle _ c.if-work-eq0.true

pub returns : goal.returns
returns c = step_runs _ c.if-work-eq0.false
