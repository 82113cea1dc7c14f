use Rattle.std.proofs.lemmas.Result.{err_from_is_err_and}
use Rattle.acceptance.specs.Entered.{formed_sized}
use Rattle.areas.specs.Entry.{called_closed, called_refused, called_passed}
use Rattle.calls.specs.Pass.{call_pass, pass_tests}
use borrow.Author.Tests.{not-true, not-false}
use mathlib.Core.Path.{sym, ◌∙◌}
use native.Mathlib.Omega.{arith}
use Rattle.pass_calls.proofs.held_start_pass.Goals as goal

pub is_open-requires : goal.is_open-requires
is_open-requires c = let h = formed_sized _ _ c.requires in omega arith

pub returns-then-not-is_open : goal.returns-then-not-is_open
unfolding call_pass
returns-then-not-is_open c = called_closed _ _ _ _ _ c.requires (sym c.is_open.ensures ∙ not-true _ c.if-not-is_open.true-raw)

pub start_check-requires : goal.start_check-requires
start_check-requires c = let h = formed_sized _ _ c.requires in omega arith

pub begin_pass-requires : goal.begin_pass-requires
begin_pass-requires c = let h = formed_sized _ _ c.requires in (h.tables, h.low)

pub returns-in_err-start_check : goal.returns-in_err-start_check
unfolding call_pass pass_tests
returns-in_err-start_check c = let p = err_from_is_err_and c.from_residual.result c.from_residual.ensures.1 in rw (p.1, p.2) (called_refused _ _ _ _ _ _ c.requires (sym c.is_open.ensures ∙ not-false _ c.if-not-is_open.false-raw) (c.in_err-start_check.ensures))

pub returns : goal.returns
unfolding call_pass pass_tests
returns c = rw c.begin_pass.ensures (called_passed _ _ _ _ _ c.requires (sym c.is_open.ensures ∙ not-false _ c.if-not-is_open.false-raw) (c.in_ok-start_check.ensures))
