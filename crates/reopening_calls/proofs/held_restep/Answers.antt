use Rattle.std.proofs.lemmas.Result.{err_from_is_err_and}
use Rattle.acceptance.specs.Entered.{formed_sized}
use Rattle.areas.specs.Layout.{reopening_at, reopening_page_at}
use Rattle.reopening.specs.Steps.{step_refused, step_stores, step_ends}
use mathlib.Core.Path.{sym, ◌∙◌}
use native.Mathlib.Omega.{arith}
use Rattle.reopening_calls.proofs.held_restep.Goals as goal

pub restep_check-requires : goal.restep_check-requires
restep_check-requires c = let h = formed_sized _ _ c.requires in omega arith

pub bounds-work-1 : goal.bounds-work-1
bounds-work-1 c = let h = formed_sized _ _ c.requires in omega arith

pub overflow_cast-p : goal.overflow_cast-p
overflow_cast-p c = omega (arith, c.slice_known-1.given reopening_at, c.slice_known-1.given reopening_page_at)

pub store_next-requires : goal.store_next-requires
store_next-requires c = let h = formed_sized _ _ c.requires in let l = c.if-p-n.true in (omega arith, omega arith, omega arith, omega arith)

pub returns-then-p-n : goal.returns-then-p-n
returns-then-p-n c = step_stores _ _ _ _ _ _ c.requires (c.in_ok-restep_check.ensures) c.if-p-n.true c.store_next.ensures.0 c.store_next.ensures.1

pub finish-requires : goal.finish-requires
finish-requires c = let h = formed_sized _ _ c.requires in (omega arith, omega arith)

pub returns-in_err-restep_check : goal.returns-in_err-restep_check
returns-in_err-restep_check c = let p = err_from_is_err_and c.from_residual.result c.from_residual.ensures.1 in rw (p.1, p.2) (step_refused _ _ _ _ _ _ c.requires _ (c.in_err-restep_check.ensures))

pub returns : goal.returns
returns c = step_ends _ _ _ _ _ _ c.requires (c.in_ok-restep_check.ensures) c.if-p-n.false c.finish.ensures.0 c.finish.ensures.1
