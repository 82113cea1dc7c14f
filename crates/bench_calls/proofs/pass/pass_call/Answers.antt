use mathlib.Core.Path.{sym, ap, ◌∙◌}
use Rattle.calls.specs.Calls.{perform}
use Rattle.bench_run.specs.Bench.{pass_call}
use Rattle.bench_calls.proofs.pass.pass_call.Goals as goal

pub returns-in-Pass : goal.returns-in-Pass
unfolding pass_call perform
returns-in-Pass c = c.start_pass.ensures ∙ ap (pass_call _) (sym c.in-Pass.is)

pub returns-in-Step : goal.returns-in-Step
unfolding pass_call perform
returns-in-Step c = c.pass_step.ensures ∙ ap (pass_call _) (sym c.in-Step.is)
