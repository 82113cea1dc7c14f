use Rattle.std.proofs.lemmas.Result.{err_from_is_err_and}
use Rattle.acceptance.specs.Entered.{formed_sized, formed_own, open_formed}
use Rattle.object_calls.specs.Reading.{read_ready, read_closed, read_refused, read_passed}
use borrow.Author.Tests.{not-true, not-false, eqb-true}
use mathlib.Core.Path.{sym, ◌∙◌}
use native.Mathlib.Omega.{arith}
use Rattle.object_calls.proofs.reading.held_read.Goals as goal

pub is_open-requires : goal.is_open-requires
is_open-requires c = let h = formed_sized _ _ c.requires in omega arith

pub returns-then-not-is_open : goal.returns-then-not-is_open
returns-then-not-is_open c = record { work_after = (read_closed _ _ _ _ _ _ _ _ _ c.requires (sym c.is_open.ensures ∙ not-true _ c.if-not-is_open.true-raw)).0; buffer_after = (read_closed _ _ _ _ _ _ _ _ _ c.requires (sym c.is_open.ensures ∙ not-true _ c.if-not-is_open.true-raw)).1 }

pub read_check-requires : goal.read_check-requires
read_check-requires c = (formed_sized _ _ c.requires).tables

pub read_apply-requires : goal.read_apply-requires
read_apply-requires c = read_ready _ _ _ _ _ _ _ _ c.args.buffer.now _ (open_formed _ _ c.requires (eqb-true _ _ (sym c.is_open.ensures ∙ not-false _ c.if-not-is_open.false-raw))) (eqb-true _ _ (formed_own _ _ c.requires)) (sym c.in_ok-read_check.ensures)

pub returns-in_err-read_check : goal.returns-in_err-read_check
returns-in_err-read_check c = let p = err_from_is_err_and c.from_residual.result c.from_residual.ensures.1 in rw (p.1, p.2) (record { work_after = (read_refused _ _ _ _ _ _ _ _ _ c.requires (sym c.is_open.ensures ∙ not-false _ c.if-not-is_open.false-raw) _ (c.in_err-read_check.ensures)).0; buffer_after = (read_refused _ _ _ _ _ _ _ _ _ c.requires (sym c.is_open.ensures ∙ not-false _ c.if-not-is_open.false-raw) _ (c.in_err-read_check.ensures)).1 })

pub returns : goal.returns
returns c = record { work_after = (read_passed _ _ _ _ _ _ _ _ _ c.requires (sym c.is_open.ensures ∙ not-false _ c.if-not-is_open.false-raw) _ _ _ (c.in_ok-read_check.ensures) c.read_apply.ensures).0; buffer_after = (read_passed _ _ _ _ _ _ _ _ _ c.requires (sym c.is_open.ensures ∙ not-false _ c.if-not-is_open.false-raw) _ _ _ (c.in_ok-read_check.ensures) c.read_apply.ensures).1 }
