use Rattle.std.proofs.lemmas.Result.{err_from_is_err_and}
use Rattle.pass_record.specs.Step.{own_page}
use Rattle.sweep_maps.specs.Freed.{freed_below}
use Rattle.sweeping.specs.Sweeps.{record_fits, step_full, step_sweeps}
use mathlib.Core.Path.{sym, ◌∙◌}
use native.Mathlib.Omega.{arith}
use Rattle.sweeping.proofs.sweep_step.Goals as goal

pub freed_map-m-requires : goal.freed_map-m-requires
freed_map-m-requires c = let q = c.requires.has_undoing in ((q.0.0, omega arith), omega arith, omega arith, q.6)

pub sweep_check-requires : goal.sweep_check-requires
sweep_check-requires c = record { kept = c.requires.kept.0; has_undoing = omega arith }

pub sweep_apply-requires : goal.sweep_apply-requires
sweep_apply-requires c = let q = c.requires.has_undoing in record { has_tables = ((q.0.0, omega arith), freed_below _ _ _ _ _ c.freed_map-m.ensures, omega arith, q.2, q.3, omega arith, omega arith, c.requires.kept.0.two); counts_bound = record_fits _ _ _ _ _ c.requires.kept.1 c.in_ok-sweep_check.ensures }

pub returns-in_err-sweep_check : goal.returns-in_err-sweep_check
returns-in_err-sweep_check c = λ s. let p = err_from_is_err_and c.from_residual.result c.from_residual.ensures.1 in rw (p.1, p.2) (step_full s _ _ _ _ _ _ _ _ (own_page _ _ c.requires.has_undoing.3) c.freed_map-m.ensures _ c.in_err-sweep_check.ensures)

pub returns : goal.returns
returns c = λ s. step_sweeps s _ _ _ _ _ _ _ _ (own_page _ _ c.requires.has_undoing.3) c.freed_map-m.ensures _ _ c.in_ok-sweep_check.ensures c.sweep_apply.ensures.value (c.sweep_apply.ensures.by_index s)
