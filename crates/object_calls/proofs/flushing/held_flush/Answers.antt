use Rattle.std.proofs.lemmas.Result.{err_from_is_err_and}
use Rattle.acceptance.specs.Entered.{formed_sized, formed_own, open_formed}
use Rattle.areas.specs.Answers.{verdict}
use Rattle.areas.specs.Entry.{called_closed, called_refused, called_passed}
use Rattle.calls.specs.Objects.{call_flush}
use Rattle.object_calls.specs.Flushing.{own_fits, flush_ready, flush_out}
use Rattle.object_checks.specs.Tests.{flush_looks}
use borrow.Author.Tests.{not-true, not-false, eqb-true}
use mathlib.Core.Path.{sym, ◌∙◌, ap}
use native.Mathlib.Omega.{arith}
use Rattle.object_calls.proofs.flushing.held_flush.Goals as goal

pub is_open-requires : goal.is_open-requires
is_open-requires c = let h = formed_sized _ _ c.requires in omega arith

pub returns-then-not-is_open : goal.returns-then-not-is_open
unfolding call_flush
returns-then-not-is_open c = called_closed _ _ _ _ _ c.requires (sym c.is_open.ensures ∙ not-true _ c.if-not-is_open.true-raw)

pub flush_check-requires : goal.flush_check-requires
flush_check-requires c = let h = (open_formed _ _ c.requires (eqb-true _ _ (sym c.is_open.ensures ∙ not-false _ c.if-not-is_open.false-raw))) in let z = h.sized.received_len in (omega arith, h.sized.tables, own_fits c.args.image.now _ (formed_own _ _ c.requires))

pub flush_apply-requires : goal.flush_apply-requires
flush_apply-requires c = flush_ready _ _ _ _ _ _ _ _ _ _ (formed_sized _ _ c.requires) (sym c.in_ok-flush_check.ensures)

pub returns-in_err-flush_check : goal.returns-in_err-flush_check
unfolding call_flush
returns-in_err-flush_check c = let p = err_from_is_err_and c.from_residual.result c.from_residual.ensures.1 in rw (p.1, p.2) (called_refused _ _ _ _ _ _ c.requires (sym c.is_open.ensures ∙ not-false _ c.if-not-is_open.false-raw) (c.in_err-flush_check.ensures ∙ ap verdict (flush_looks _ _ _ _ _ _ _ _ _ _)))

pub returns : goal.returns
unfolding call_flush
returns c = flush_out _ _ _ _ _ _ _ _ _ _ _ c.flush_apply.ensures ∙ called_passed _ _ _ _ _ c.requires (sym c.is_open.ensures ∙ not-false _ c.if-not-is_open.false-raw) (c.in_ok-flush_check.ensures ∙ ap verdict (flush_looks _ _ _ _ _ _ _ _ _ _))
