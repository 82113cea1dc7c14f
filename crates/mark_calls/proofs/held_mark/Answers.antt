use Rattle.std.proofs.lemmas.Result.{err_from_is_err_and}
use native.Mathlib.Omega.{arith}
use Rattle.acceptance.specs.Entered.{formed_sized, open_formed}
use Rattle.areas.specs.Areas.{done}
use Rattle.areas.specs.Entry.{called_closed, called_refused, called_passed}
use borrow.Author.Tests.{not-true, not-false, eqb-true}
use mathlib.Core.Path.{sym, ap, ◌∙◌}
use Rattle.calls.specs.Marks.{call_mark}
use Rattle.marks.specs.Checks.{mark_as, mark_ready}
use Rattle.mark_calls.proofs.held_mark.Goals as goal

pub is_open-requires : goal.is_open-requires
is_open-requires c = let h = formed_sized _ _ c.requires in omega arith

pub returns-then-not-is_open : goal.returns-then-not-is_open
unfolding call_mark
returns-then-not-is_open c = called_closed _ _ _ _ _ c.requires (sym c.is_open.ensures ∙ not-true _ c.if-not-is_open.true-raw)

pub mark_check-requires : goal.mark_check-requires
mark_check-requires c = let h = formed_sized _ _ c.requires in omega arith

pub mark_apply-requires : goal.mark_apply-requires
mark_apply-requires c = record { kept = (mark_ready _ _ _ _ (open_formed _ _ c.requires (eqb-true _ _ (sym c.is_open.ensures ∙ not-false _ c.if-not-is_open.false-raw))) (sym (mark_as _ _ _ _ _ _ _ _ c.in_ok-mark_check.ensures))).0; has_undoing = (mark_ready _ _ _ _ (open_formed _ _ c.requires (eqb-true _ _ (sym c.is_open.ensures ∙ not-false _ c.if-not-is_open.false-raw))) (sym (mark_as _ _ _ _ _ _ _ _ c.in_ok-mark_check.ensures))).1 }

pub returns-in_err-mark_check : goal.returns-in_err-mark_check
unfolding call_mark
returns-in_err-mark_check c = let p = err_from_is_err_and c.from_residual.result c.from_residual.ensures.1 in rw (p.1, p.2) (called_refused _ _ _ _ _ _ c.requires (sym c.is_open.ensures ∙ not-false _ c.if-not-is_open.false-raw) (mark_as _ _ _ _ _ _ _ _ c.in_err-mark_check.ensures))

pub returns : goal.returns
unfolding call_mark
returns c = ap (done 0) (c.mark_apply.ensures _ _ _) ∙ called_passed _ _ _ _ _ c.requires (sym c.is_open.ensures ∙ not-false _ c.if-not-is_open.false-raw) (mark_as _ _ _ _ _ _ _ _ c.in_ok-mark_check.ensures)
