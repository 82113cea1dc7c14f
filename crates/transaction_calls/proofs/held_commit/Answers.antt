use Rattle.std.proofs.lemmas.Result.{err_from_is_err_and}
use Rattle.acceptance.specs.Entered.{formed_sized, open_formed}
use Rattle.areas.specs.Entry.{called_closed, called_refused, called_passed}
use Rattle.calls.specs.Transactions.{call_commit}
use Rattle.transactions.specs.Checks.{commit_as, commit_ready}
use borrow.Author.Tests.{not-true, not-false, eqb-true}
use mathlib.Core.Path.{sym, ◌∙◌}
use native.Mathlib.Omega.{arith}
use Rattle.transaction_calls.proofs.held_commit.Goals as goal

pub is_open-requires : goal.is_open-requires
is_open-requires c = let h = formed_sized _ _ c.requires in omega arith

pub returns-then-not-is_open : goal.returns-then-not-is_open
unfolding call_commit
returns-then-not-is_open c = called_closed _ _ _ _ _ c.requires (sym c.is_open.ensures ∙ not-true _ c.if-not-is_open.true-raw)

pub commit_check-requires : goal.commit_check-requires
commit_check-requires c = let h = formed_sized _ _ c.requires in (omega arith, h.tables)

pub commit_apply-requires : goal.commit_apply-requires
commit_apply-requires c = record { fits = (commit_ready _ _ _ (open_formed _ _ c.requires (eqb-true _ _ (sym c.is_open.ensures ∙ not-false _ c.if-not-is_open.false-raw))) (sym (commit_as _ _ _ _ _ _ _ _ c.in_ok-commit_check.ensures))).0; has_undoing = (commit_ready _ _ _ (open_formed _ _ c.requires (eqb-true _ _ (sym c.is_open.ensures ∙ not-false _ c.if-not-is_open.false-raw))) (sym (commit_as _ _ _ _ _ _ _ _ c.in_ok-commit_check.ensures))).1 }

pub returns-in_err-commit_check : goal.returns-in_err-commit_check
unfolding call_commit
returns-in_err-commit_check c = let p = err_from_is_err_and c.from_residual.result c.from_residual.ensures.1 in rw (p.1, p.2) (called_refused _ _ _ _ _ _ c.requires (sym c.is_open.ensures ∙ not-false _ c.if-not-is_open.false-raw) (commit_as _ _ _ _ _ _ _ _ c.in_err-commit_check.ensures))

pub returns : goal.returns
unfolding call_commit
returns c = c.commit_apply.ensures _ _ ∙ called_passed _ _ _ _ _ c.requires (sym c.is_open.ensures ∙ not-false _ c.if-not-is_open.false-raw) (commit_as _ _ _ _ _ _ _ _ c.in_ok-commit_check.ensures)
