use Rattle.std.proofs.lemmas.Result.{err_from_is_err_and}
use Rattle.acceptance.specs.Entered.{formed_sized}
use Rattle.acceptance.specs.Stability.{force_facts}
use Rattle.areas.specs.Answers.{verdict}
use Rattle.areas.specs.Entry.{called_closed, called_refused, called_passed}
use Rattle.calls.specs.Stability.{call_force}
use Rattle.stability.specs.Checks.{force_as}
use borrow.Author.Tests.{not-true, not-false}
use mathlib.Core.Path.{sym, ◌∙◌, ap}
use native.Mathlib.Omega.{arith}
use Rattle.stability_calls.proofs.held_force.Goals as goal

pub is_open-requires : goal.is_open-requires
is_open-requires c = let h = formed_sized _ _ c.requires in omega arith

pub returns-then-not-is_open : goal.returns-then-not-is_open
unfolding call_force
returns-then-not-is_open c = called_closed _ _ _ _ _ c.requires (sym c.is_open.ensures ∙ not-true _ c.if-not-is_open.true-raw)

pub force_check-requires : goal.force_check-requires
force_check-requires c = let h = formed_sized _ _ c.requires in omega arith

pub raise_stable-requires : goal.raise_stable-requires
raise_stable-requires c = let h = formed_sized _ _ c.requires in let f = force_facts _ (sym c.in_ok-force_check.ensures) in (omega arith, f.unstable)

pub returns-in_err-force_check : goal.returns-in_err-force_check
unfolding call_force
returns-in_err-force_check c = let p = err_from_is_err_and c.from_residual.result c.from_residual.ensures.1 in rw (p.1, p.2) (called_refused _ _ _ _ _ _ c.requires (sym c.is_open.ensures ∙ not-false _ c.if-not-is_open.false-raw) (c.in_err-force_check.ensures ∙ ap verdict (force_as _)))

pub returns : goal.returns
unfolding call_force
returns c = rw (c.raise_stable.ensures.0, c.raise_stable.ensures.1) (called_passed _ _ _ _ _ c.requires (sym c.is_open.ensures ∙ not-false _ c.if-not-is_open.false-raw) (c.in_ok-force_check.ensures ∙ ap verdict (force_as _)))
