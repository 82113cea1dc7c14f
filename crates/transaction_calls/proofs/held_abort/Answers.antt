use Rattle.std.proofs.lemmas.Result.{err_from_is_err_and}
use Rattle.aborts.specs.Aborts.{abort_as, abort_ready}
use Rattle.acceptance.specs.Entered.{formed_sized, open_formed}
use Rattle.areas.specs.Entry.{called_closed, called_refused, called_passed}
use Rattle.calls.specs.Transactions.{call_abort}
use Rattle.log_ops.specs.Logs.{open_kept, open_undoing}
use borrow.Author.Tests.{not-true, not-false, eqb-true}
use mathlib.Core.Path.{sym, ◌∙◌}
use native.Mathlib.Omega.{arith}
use Rattle.transaction_calls.proofs.held_abort.Goals as goal

pub is_open-requires : goal.is_open-requires
is_open-requires c = let h = formed_sized _ _ c.requires in omega arith

pub returns-then-not-is_open : goal.returns-then-not-is_open
unfolding call_abort
returns-then-not-is_open c = called_closed _ _ _ _ _ c.requires (sym c.is_open.ensures ∙ not-true _ c.if-not-is_open.true-raw)

pub abort_check-requires : goal.abort_check-requires
abort_check-requires c = let o = open_formed _ _ c.requires (eqb-true _ _ (sym c.is_open.ensures ∙ not-false _ c.if-not-is_open.false-raw)) in record { kept = open_kept _ _ o; has_undoing = open_undoing _ _ o }

pub abort_apply-requires : goal.abort_apply-requires
abort_apply-requires c = record { undoable = (abort_ready _ _ _ (open_formed _ _ c.requires (eqb-true _ _ (sym c.is_open.ensures ∙ not-false _ c.if-not-is_open.false-raw))) (sym (abort_as _ _ _ _ _ _ _ _ c.in_ok-abort_check.ensures))).0; n_nonzero = (abort_ready _ _ _ (open_formed _ _ c.requires (eqb-true _ _ (sym c.is_open.ensures ∙ not-false _ c.if-not-is_open.false-raw))) (sym (abort_as _ _ _ _ _ _ _ _ c.in_ok-abort_check.ensures))).1 }

pub returns-in_err-abort_check : goal.returns-in_err-abort_check
unfolding call_abort
returns-in_err-abort_check c = let p = err_from_is_err_and c.from_residual.result c.from_residual.ensures.1 in rw (p.1, p.2) (called_refused _ _ _ _ _ _ c.requires (sym c.is_open.ensures ∙ not-false _ c.if-not-is_open.false-raw) (abort_as _ _ _ _ _ _ _ _ c.in_err-abort_check.ensures))

pub returns : goal.returns
unfolding call_abort
returns c = c.abort_apply.ensures _ ∙ called_passed _ _ _ _ _ c.requires (sym c.is_open.ensures ∙ not-false _ c.if-not-is_open.false-raw) (abort_as _ _ _ _ _ _ _ _ c.in_ok-abort_check.ensures)
