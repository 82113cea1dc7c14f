use native.Mathlib.Omega.{arith}
use mathlib.Core.Path.{sym, ◌∙◌, ap}
use borrow.Author.Tests.{not-true, not-false}
use Rattle.store_ops.specs.Tables.{page_range}
use Rattle.locks.specs.Checks.{answer_to, right_asked, lock_outside, lock_inactive, lock_unright, lock_answer}
use Rattle.locks.proofs.lock_check.Goals as goal

pub returns-then-not-t-page : goal.returns-then-not-t-page
returns-then-not-t-page c = lock_outside _ _ _ _ _ (not-true _ c.if-not-t-page.true-raw)

pub has-requires : goal.has-requires
has-requires c = let h = page_range c.args.n c.args.t c.args.p (not-false _ c.if-not-t-page.false-raw) in (omega arith, omega arith)

pub returns-then-not-has : goal.returns-then-not-has
returns-then-not-has c = lock_inactive _ _ _ _ _ (not-false _ c.if-not-t-page.false-raw) (sym c.has.ensures ∙ not-true _ c.if-not-has.true-raw)

pub may_lock-requires : goal.may_lock-requires
may_lock-requires c = let h = page_range c.args.n c.args.t c.args.p (not-false _ c.if-not-t-page.false-raw) in (c.requires.0, h.0, h.1, c.requires.1 c.args.t h.0)

pub returns-then-not-may_lock : goal.returns-then-not-may_lock
returns-then-not-may_lock c = lock_unright _ _ _ _ _ (not-false _ c.if-not-t-page.false-raw) (sym c.has.ensures ∙ not-false _ c.if-not-has.false-raw) (right_asked _ _ _ _ c.args.writing c.right_for.ensures c.may_lock.ensures ∙ not-true _ c.if-not-may_lock.true-raw)

pub way_to-requires : goal.way_to-requires
way_to-requires c = let h = page_range c.args.n c.args.t c.args.p (not-false _ c.if-not-t-page.false-raw) in omega arith

pub returns-in-None : goal.returns-in-None
returns-in-None c = ap answer_to (sym c.in-None.is) ∙ lock_answer _ _ _ _ _ (not-false _ c.if-not-t-page.false-raw) (sym c.has.ensures ∙ not-false _ c.if-not-has.false-raw) (right_asked _ _ _ _ c.args.writing c.right_for.ensures c.may_lock.ensures ∙ not-false _ c.if-not-may_lock.false-raw) c.way_to.ensures

pub returns-in-Some : goal.returns-in-Some
returns-in-Some c = ap answer_to (sym c.in-Some.is) ∙ lock_answer _ _ _ _ _ (not-false _ c.if-not-t-page.false-raw) (sym c.has.ensures ∙ not-false _ c.if-not-has.false-raw) (right_asked _ _ _ _ c.args.writing c.right_for.ensures c.may_lock.ensures ∙ not-false _ c.if-not-may_lock.false-raw) c.way_to.ensures
