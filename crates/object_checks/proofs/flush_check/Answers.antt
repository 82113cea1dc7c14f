use native.Mathlib.Omega.{arith}
use mathlib.Core.Path.{sym, ◌∙◌}
use borrow.Author.Tests.{not-true, not-false}
use Rattle.areas.specs.Answers.{all_passed, need_holds, need_fails}
use Rattle.store_ops.specs.Tables.{page_range}
use Rattle.calls.specs.Objects.{flush_tests}
use Rattle.object_checks.proofs.flush_check.Goals as goal

pub returns-then-not-page_in_range : goal.returns-then-not-page_in_range
unfolding flush_tests
returns-then-not-page_in_range c = need_fails _ _ _ _ (sym c.page_in_range.ensures ∙ not-true _ c.if-not-page_in_range.true-raw)

pub has-requires : goal.has-requires
has-requires c = let a = c.args in let h = page_range a.n a.t a.p (sym c.page_in_range.ensures ∙ not-false _ c.if-not-page_in_range.false-raw) in omega arith

pub returns-then-not-has : goal.returns-then-not-has
unfolding flush_tests
returns-then-not-has c = need_fails _ _ _ _ (sym c.has.ensures ∙ not-true _ c.if-not-has.true-raw) ∙ need_holds _ _ _ _ (sym c.page_in_range.ensures ∙ not-false _ c.if-not-page_in_range.false-raw)

pub can_write-requires : goal.can_write-requires
can_write-requires c = let a = c.args in let h = page_range a.n a.t a.p (sym c.page_in_range.ensures ∙ not-false _ c.if-not-page_in_range.false-raw) in omega arith

pub returns-then-not-can_write : goal.returns-then-not-can_write
unfolding flush_tests
returns-then-not-can_write c = need_fails _ _ _ _ (sym c.can_write.ensures ∙ not-true _ c.if-not-can_write.true-raw) ∙ need_holds _ _ _ _ (sym c.has.ensures ∙ not-false _ c.if-not-has.false-raw) ∙ need_holds _ _ _ _ (sym c.page_in_range.ensures ∙ not-false _ c.if-not-page_in_range.false-raw)

pub page_agrees-requires : goal.page_agrees-requires
page_agrees-requires c = let a = c.args in let h = page_range a.n a.t a.p (sym c.page_in_range.ensures ∙ not-false _ c.if-not-page_in_range.false-raw) in omega arith

pub returns-then-not-page_agrees : goal.returns-then-not-page_agrees
unfolding flush_tests
returns-then-not-page_agrees c = need_fails _ _ _ _ (sym c.page_agrees.ensures ∙ not-true _ c.if-not-page_agrees.true-raw) ∙ need_holds _ _ _ _ (sym c.can_write.ensures ∙ not-false _ c.if-not-can_write.false-raw) ∙ need_holds _ _ _ _ (sym c.has.ensures ∙ not-false _ c.if-not-has.false-raw) ∙ need_holds _ _ _ _ (sym c.page_in_range.ensures ∙ not-false _ c.if-not-page_in_range.false-raw)

pub returns : goal.returns
unfolding flush_tests
returns c = all_passed ∙ need_holds _ _ _ _ (sym c.page_agrees.ensures ∙ not-false _ c.if-not-page_agrees.false-raw) ∙ need_holds _ _ _ _ (sym c.can_write.ensures ∙ not-false _ c.if-not-can_write.false-raw) ∙ need_holds _ _ _ _ (sym c.has.ensures ∙ not-false _ c.if-not-has.false-raw) ∙ need_holds _ _ _ _ (sym c.page_in_range.ensures ∙ not-false _ c.if-not-page_in_range.false-raw)
