use Rattle.std.proofs.lemmas.Result.{err_from_is_err_and}
use native.Mathlib.Omega.{arith}
use Rattle.acceptance.specs.Entered.{formed_sized, open_formed}
use Rattle.areas.specs.Entry.{called_closed, called_refused, called_passed}
use borrow.Author.Tests.{not-true, not-false, eqb-true}
use mathlib.Core.Path.{sym, ◌∙◌}
use Rattle.calls.specs.Rights.{call_grant}
use Rattle.rights.specs.Checks.{grant_as, grant_ready}
use Rattle.right_calls.proofs.held_grant.Goals as goal

pub is_open-requires : goal.is_open-requires
is_open-requires c = let h = formed_sized _ _ c.requires in omega arith

pub returns-then-not-is_open : goal.returns-then-not-is_open
unfolding call_grant
returns-then-not-is_open c = called_closed _ _ _ _ _ c.requires (sym c.is_open.ensures ∙ not-true _ c.if-not-is_open.true-raw)

pub grant_check-requires : goal.grant_check-requires
grant_check-requires c = let h = formed_sized _ _ c.requires in (h.top, omega arith)

pub grant_apply-requires : goal.grant_apply-requires
grant_apply-requires c = grant_ready _ _ _ _ _ (open_formed _ _ c.requires (eqb-true _ _ (sym c.is_open.ensures ∙ not-false _ c.if-not-is_open.false-raw))) (sym (grant_as _ _ _ _ _ _ _ _ _ _ c.in_ok-grant_check.ensures))

pub returns-in_err-grant_check : goal.returns-in_err-grant_check
unfolding call_grant
returns-in_err-grant_check c = let p = err_from_is_err_and c.from_residual.result c.from_residual.ensures.1 in rw (p.1, p.2) (called_refused _ _ _ _ _ _ c.requires (sym c.is_open.ensures ∙ not-false _ c.if-not-is_open.false-raw) (grant_as _ _ _ _ _ _ _ _ _ _ c.in_err-grant_check.ensures))

pub returns : goal.returns
unfolding call_grant
returns c = rw c.grant_apply.ensures (called_passed _ _ _ _ _ c.requires (sym c.is_open.ensures ∙ not-false _ c.if-not-is_open.false-raw) (grant_as _ _ _ _ _ _ _ _ _ _ c.in_ok-grant_check.ensures))
