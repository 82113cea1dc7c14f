use Rattle.std.proofs.lemmas.Result.{err_from_is_err_and}
use mathlib.Core.Path.{sym, ap, ◌∙◌}
use native.Mathlib.Omega.{arith}
use borrow.Author.Tests.{not-true, not-false}
use Rattle.areas.specs.Answers.{verdict}
use Rattle.areas.specs.Entry.{called_closed, called_refused, called_passed}
use Rattle.calls.specs.Stability.{call_empty}
use Rattle.acceptance.specs.Entered.{formed_sized}
use Rattle.stability.specs.Checks.{empty_as}
use Rattle.stability_calls.proofs.held_empty_log.Goals as goal

pub is_open-requires : goal.is_open-requires
is_open-requires c = let h = formed_sized _ _ c.requires in omega arith

pub returns-then-not-is_open : goal.returns-then-not-is_open
unfolding call_empty
returns-then-not-is_open c = called_closed _ _ _ _ _ c.requires (sym c.is_open.ensures ∙ not-true _ c.if-not-is_open.true-raw)

pub empty_check-requires : goal.empty_check-requires
empty_check-requires c = let h = formed_sized _ _ c.requires in (omega arith, omega arith, omega arith)

pub empty-requires : goal.empty-requires
empty-requires c = let h = formed_sized _ _ c.requires in (omega arith, h.undoing)

pub returns-in_err-empty_check : goal.returns-in_err-empty_check
unfolding call_empty
returns-in_err-empty_check c = let p = err_from_is_err_and c.from_residual.result c.from_residual.ensures.1 in rw (p.1, p.2) (called_refused _ _ _ _ _ _ c.requires (sym c.is_open.ensures ∙ not-false _ c.if-not-is_open.false-raw) (c.in_err-empty_check.ensures ∙ ap verdict (empty_as _)))

pub returns : goal.returns
unfolding call_empty
returns c = rw (c.empty.ensures.0, c.empty.ensures.1) (called_passed _ _ _ _ _ c.requires (sym c.is_open.ensures ∙ not-false _ c.if-not-is_open.false-raw) (c.in_ok-empty_check.ensures ∙ ap verdict (empty_as _)))
