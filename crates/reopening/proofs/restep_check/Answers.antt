use Rattle.reopening.specs.Steps.{step_goes, step_idle}
use Rattle.reopening.proofs.restep_check.Goals as goal

pub returns-then-work-eq-RUNNING : goal.returns-then-work-eq-RUNNING
returns-then-work-eq-RUNNING c = step_goes _ c.if-work-eq-RUNNING.true

pub returns : goal.returns
returns c = step_idle _ c.if-work-eq-RUNNING.false
