use Rattle.std.proofs.lemmas.Result.{err_from_is_err_and}
use native.Mathlib.Omega.{arith}
use Rattle.acceptance.specs.Entered.{formed_sized, open_formed}
use Rattle.areas.specs.Areas.{done}
use Rattle.areas.specs.Entry.{called_closed, called_refused, called_passed}
use borrow.Author.Tests.{not-true, not-false, eqb-true}
use mathlib.Core.Path.{sym, ap, ◌∙◌}
use Rattle.calls.specs.Marks.{call_back}
use Rattle.log_ops.specs.Logs.{open_kept, open_undoing}
use Rattle.going_back.specs.Checks.{back_as, back_ready}
use Rattle.mark_calls.proofs.held_back.Goals as goal

pub is_open-requires : goal.is_open-requires
is_open-requires c = let h = formed_sized _ _ c.requires in omega arith

pub returns-then-not-is_open : goal.returns-then-not-is_open
unfolding call_back
returns-then-not-is_open c = called_closed _ _ _ _ _ c.requires (sym c.is_open.ensures ∙ not-true _ c.if-not-is_open.true-raw)

pub back_check-requires : goal.back_check-requires
back_check-requires c = let o = open_formed _ _ c.requires (eqb-true _ _ (sym c.is_open.ensures ∙ not-false _ c.if-not-is_open.false-raw)) in record { kept = open_kept _ _ o; has_undoing = open_undoing _ _ o }

pub back_apply-requires : goal.back_apply-requires
back_apply-requires c = back_ready _ _ _ _ (open_formed _ _ c.requires (eqb-true _ _ (sym c.is_open.ensures ∙ not-false _ c.if-not-is_open.false-raw))) (sym (back_as _ _ _ _ _ _ _ _ _ c.in_ok-back_check.ensures))

pub returns-in_err-back_check : goal.returns-in_err-back_check
unfolding call_back
returns-in_err-back_check c = let p = err_from_is_err_and c.from_residual.result c.from_residual.ensures.1 in rw (p.1, p.2) (called_refused _ _ _ _ _ _ c.requires (sym c.is_open.ensures ∙ not-false _ c.if-not-is_open.false-raw) (back_as _ _ _ _ _ _ _ _ _ c.in_err-back_check.ensures))

pub returns : goal.returns
unfolding call_back
returns c = ap (done 0) (c.back_apply.ensures _ _) ∙ called_passed _ _ _ _ _ c.requires (sym c.is_open.ensures ∙ not-false _ c.if-not-is_open.false-raw) (back_as _ _ _ _ _ _ _ _ _ c.in_ok-back_check.ensures)
