use Rattle.std.proofs.lemmas.Result.{err_from_is_err_and}
use Rattle.acceptance.specs.Entered.{formed_sized, open_formed}
use Rattle.areas.specs.Entry.{called_closed, called_refused, called_passed}
use Rattle.calls.specs.Transactions.{call_begin}
use Rattle.log_ops.specs.Logs.{open_kept, open_undoing}
use Rattle.transactions.specs.Checks.{begin_as, begin_ready}
use borrow.Author.Tests.{not-true, not-false, eqb-true}
use mathlib.Core.Path.{sym, ◌∙◌}
use native.Mathlib.Omega.{arith}
use Rattle.transaction_calls.proofs.held_begin.Goals as goal

pub is_open-requires : goal.is_open-requires
is_open-requires c = let h = formed_sized _ _ c.requires in omega arith

pub returns-then-not-is_open : goal.returns-then-not-is_open
unfolding call_begin
returns-then-not-is_open c = called_closed _ _ _ _ _ c.requires (sym c.is_open.ensures ∙ not-true _ c.if-not-is_open.true-raw)

pub begin_check-requires : goal.begin_check-requires
begin_check-requires c = let o = open_formed _ _ c.requires (eqb-true _ _ (sym c.is_open.ensures ∙ not-false _ c.if-not-is_open.false-raw)) in record { kept = open_kept _ _ o; has_undoing = open_undoing _ _ o }

pub begin_apply-requires : goal.begin_apply-requires
begin_apply-requires c = record { fits = (begin_ready _ _ _ _ (open_formed _ _ c.requires (eqb-true _ _ (sym c.is_open.ensures ∙ not-false _ c.if-not-is_open.false-raw))) (sym (begin_as _ _ _ _ _ _ _ _ _ c.in_ok-begin_check.ensures))).0; has_undoing = (begin_ready _ _ _ _ (open_formed _ _ c.requires (eqb-true _ _ (sym c.is_open.ensures ∙ not-false _ c.if-not-is_open.false-raw))) (sym (begin_as _ _ _ _ _ _ _ _ _ c.in_ok-begin_check.ensures))).1 }

pub returns-in_err-begin_check : goal.returns-in_err-begin_check
unfolding call_begin
returns-in_err-begin_check c = let p = err_from_is_err_and c.from_residual.result c.from_residual.ensures.1 in rw (p.1, p.2) (called_refused _ _ _ _ _ _ c.requires (sym c.is_open.ensures ∙ not-false _ c.if-not-is_open.false-raw) (begin_as _ _ _ _ _ _ _ _ _ c.in_err-begin_check.ensures))

pub returns : goal.returns
unfolding call_begin
returns c = c.begin_apply.ensures _ _ ∙ called_passed _ _ _ _ _ c.requires (sym c.is_open.ensures ∙ not-false _ c.if-not-is_open.false-raw) (begin_as _ _ _ _ _ _ _ _ _ c.in_ok-begin_check.ensures)
