use Rattle.std.proofs.lemmas.Result.{err_from_is_err_and}
use Rattle.acceptance.specs.Entered.{formed_sized, open_formed}
use Rattle.areas.specs.Answers.{verdict}
use Rattle.areas.specs.Entry.{called_closed, called_refused, called_passed}
use Rattle.calls.specs.Locks.{call_lock_read}
use Rattle.locks.specs.Checks.{open_clients, lock_read_as, lock_passed}
use borrow.Author.Tests.{not-true, not-false, eqb-true}
use mathlib.Core.Path.{sym, ◌∙◌, ap}
use native.Mathlib.Omega.{arith}
use Rattle.lock_calls.proofs.held_lock_read.Goals as goal

pub is_open-requires : goal.is_open-requires
is_open-requires c = let h = formed_sized _ _ c.requires in omega arith

pub returns-then-not-is_open : goal.returns-then-not-is_open
unfolding call_lock_read
returns-then-not-is_open c = called_closed _ _ _ _ _ c.requires (sym c.is_open.ensures ∙ not-true _ c.if-not-is_open.true-raw)

pub lock_check-requires : goal.lock_check-requires
lock_check-requires c = let o = open_formed _ _ c.requires (eqb-true _ _ (sym c.is_open.ensures ∙ not-false _ c.if-not-is_open.false-raw)) in let z = o.sized in ((z.top, omega arith), open_clients _ _ o)

pub let_read-requires : goal.let_read-requires
let_read-requires c = let h = formed_sized _ _ c.requires in let f = lock_passed _ _ _ _ _ (sym c.in_ok-lock_check.ensures) in (h.tables, f.1, omega arith)

pub returns-in_err-lock_check : goal.returns-in_err-lock_check
unfolding call_lock_read
returns-in_err-lock_check c = let p = err_from_is_err_and c.from_residual.result c.from_residual.ensures.1 in rw (p.1, p.2) (called_refused _ _ _ _ _ _ c.requires (sym c.is_open.ensures ∙ not-false _ c.if-not-is_open.false-raw) (c.in_err-lock_check.ensures ∙ ap verdict (lock_read_as _ _ _ _)))

pub returns : goal.returns
unfolding call_lock_read
returns c = rw c.let_read.ensures (called_passed _ _ _ _ _ c.requires (sym c.is_open.ensures ∙ not-false _ c.if-not-is_open.false-raw) (c.in_ok-lock_check.ensures ∙ ap verdict (lock_read_as _ _ _ _)))
