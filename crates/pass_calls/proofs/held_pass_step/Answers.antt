use Rattle.std.proofs.lemmas.Result.{err_from_is_err_and}
use Rattle.acceptance.specs.Entered.{formed_sized, open_formed}
use Rattle.areas.specs.Entry.{called_closed, called_refused, called_passed}
use Rattle.calls.specs.Pass.{call_step, step_tests}
use Rattle.passes.specs.Stepping.{open_steppable}
use borrow.Author.Tests.{not-true, not-false, eqb-true}
use mathlib.Core.Path.{sym, ◌∙◌}
use native.Mathlib.Omega.{arith}
use Rattle.pass_calls.proofs.held_pass_step.Goals as goal

pub is_open-requires : goal.is_open-requires
is_open-requires c = let h = formed_sized _ _ c.requires in omega arith

pub returns-then-not-is_open : goal.returns-then-not-is_open
unfolding call_step
returns-then-not-is_open c = called_closed _ _ _ _ _ c.requires (sym c.is_open.ensures ∙ not-true _ c.if-not-is_open.true-raw)

pub step_check-requires : goal.step_check-requires
step_check-requires c = let h = formed_sized _ _ c.requires in omega arith

pub step_apply-requires : goal.step_apply-requires
step_apply-requires c = open_steppable _ _ (open_formed _ _ c.requires (eqb-true _ _ (sym c.is_open.ensures ∙ not-false _ c.if-not-is_open.false-raw)))

pub returns-in_err-step_check : goal.returns-in_err-step_check
unfolding call_step step_tests
returns-in_err-step_check c = let p = err_from_is_err_and c.from_residual.result c.from_residual.ensures.1 in rw (p.1, p.2) (called_refused _ _ _ _ _ _ c.requires (sym c.is_open.ensures ∙ not-false _ c.if-not-is_open.false-raw) (c.in_err-step_check.ensures))

pub returns : goal.returns
unfolding call_step step_tests
returns c = c.step_apply.ensures _ ∙ called_passed _ _ _ _ _ c.requires (sym c.is_open.ensures ∙ not-false _ c.if-not-is_open.false-raw) (c.in_ok-step_check.ensures)
