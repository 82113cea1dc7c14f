use Rattle.std.proofs.lemmas.Result.{err_from_is_err_and}
use Rattle.acceptance.specs.Entered.{formed_sized, open_formed}
use Rattle.areas.specs.Answers.{verdict}
use Rattle.areas.specs.Entry.{called_closed, called_refused, called_passed}
use Rattle.calls.specs.Objects.{call_set, word_set}
use Rattle.object_calls.specs.Changing.{set_ready, set_tables}
use Rattle.object_checks.specs.Tests.{set_looks}
use Rattle.log_ops.specs.Logs.{open_kept, open_undoing, appended_out}
use borrow.Author.Tests.{not-true, not-false, eqb-true}
use mathlib.Core.Path.{sym, ◌∙◌, ap}
use native.Mathlib.Omega.{arith}
use Rattle.object_calls.proofs.setting.held_set_word.Goals as goal

pub is_open-requires : goal.is_open-requires
is_open-requires c = let h = formed_sized _ _ c.requires in omega arith

pub returns-then-not-is_open : goal.returns-then-not-is_open
unfolding call_set
returns-then-not-is_open c = called_closed _ _ _ _ _ c.requires (sym c.is_open.ensures ∙ not-true _ c.if-not-is_open.true-raw)

pub set_check-requires : goal.set_check-requires
set_check-requires c = let h = (open_formed _ _ c.requires (eqb-true _ _ (sym c.is_open.ensures ∙ not-false _ c.if-not-is_open.false-raw))) in record { has_undoing = open_undoing _ _ h; kept = open_kept _ _ h }

pub set_apply-requires : goal.set_apply-requires
set_apply-requires c = set_ready _ _ _ _ _ _ _ _ _ (open_formed _ _ c.requires (eqb-true _ _ (sym c.is_open.ensures ∙ not-false _ c.if-not-is_open.false-raw))) _ _ (sym c.in_ok-set_check.ensures)

pub returns-in_err-set_check : goal.returns-in_err-set_check
unfolding call_set word_set
returns-in_err-set_check c = let p = err_from_is_err_and c.from_residual.result c.from_residual.ensures.1 in rw (p.1, p.2) (called_refused _ _ _ _ _ _ c.requires (sym c.is_open.ensures ∙ not-false _ c.if-not-is_open.false-raw) (c.in_err-set_check.ensures ∙ ap verdict (set_looks _ _ _ _ _ _ _ _ _ _ _)))

pub returns : goal.returns
unfolding call_set word_set
returns c = let h = (open_formed _ _ c.requires (eqb-true _ _ (sym c.is_open.ensures ∙ not-false _ c.if-not-is_open.false-raw))) in let z = c.set_apply.ensures in appended_out _ _ _ _ _ _ _ _ _ _ _ _ _ h.sized.counts_len (z.0, z.1, z.2, z.3) (z.4 ∙ set_tables _ _ _ _ _ _ _) ∙ called_passed _ _ _ _ _ c.requires (sym c.is_open.ensures ∙ not-false _ c.if-not-is_open.false-raw) (c.in_ok-set_check.ensures ∙ ap verdict (set_looks _ _ _ _ _ _ _ _ _ _ _))
