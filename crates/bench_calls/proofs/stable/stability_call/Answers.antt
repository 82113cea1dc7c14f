use mathlib.Core.Path.{sym, ap, ◌∙◌}
use Rattle.calls.specs.Calls.{perform}
use Rattle.bench_run.specs.Bench.{stability_call}
use Rattle.bench_calls.proofs.stable.stability_call.Goals as goal

pub returns-in-Store : goal.returns-in-Store
unfolding stability_call perform
returns-in-Store c = c.store_page.ensures ∙ ap (stability_call _) (sym c.in-Store.is)

pub returns-in-Force : goal.returns-in-Force
unfolding stability_call perform
returns-in-Force c = c.force.ensures ∙ ap (stability_call _) (sym c.in-Force.is)

pub returns-in-Empty : goal.returns-in-Empty
unfolding stability_call perform
returns-in-Empty c = c.empty_log.ensures ∙ ap (stability_call _) (sym c.in-Empty.is)
