use native.Mathlib.Omega.{arith}
use mathlib.Core.Path.{sym, ◌∙◌}
use borrow.Author.Tests.{not-true, not-false}
use Rattle.areas.specs.Answers.{all_passed, need_holds, need_fails}
use Rattle.object_checks.specs.Tests.{object_range}
use Rattle.calls.specs.Objects.{read_tests}
use Rattle.object_checks.proofs.read_check.Goals as goal

pub returns-then-not-in_range : goal.returns-then-not-in_range
unfolding read_tests
returns-then-not-in_range c = need_fails _ _ _ _ (sym c.in_range.ensures ∙ not-true _ c.if-not-in_range.true-raw)

pub has-requires : goal.has-requires
has-requires c = let a = c.args in let h = object_range a.n a.t a.o (sym c.in_range.ensures ∙ not-false _ c.if-not-in_range.false-raw) in omega arith

pub returns-then-not-has : goal.returns-then-not-has
unfolding read_tests
returns-then-not-has c = need_fails _ _ _ _ (sym c.has.ensures ∙ not-true _ c.if-not-has.true-raw) ∙ need_holds _ _ _ _ (sym c.in_range.ensures ∙ not-false _ c.if-not-in_range.false-raw)

pub overflow_sub-o : goal.overflow_sub-o
overflow_sub-o c = let a = c.args in let h = object_range a.n a.t a.o (sym c.in_range.ensures ∙ not-false _ c.if-not-in_range.false-raw) in omega arith

pub can_read-requires : goal.can_read-requires
can_read-requires c = let a = c.args in let h = object_range a.n a.t a.o (sym c.in_range.ensures ∙ not-false _ c.if-not-in_range.false-raw) in omega arith

pub returns-then-not-can_read : goal.returns-then-not-can_read
unfolding read_tests
returns-then-not-can_read c = need_fails _ _ _ _ (sym c.can_read.ensures ∙ not-true _ c.if-not-can_read.true-raw) ∙ need_holds _ _ _ _ (sym c.has.ensures ∙ not-false _ c.if-not-has.false-raw) ∙ need_holds _ _ _ _ (sym c.in_range.ensures ∙ not-false _ c.if-not-in_range.false-raw)

pub knows-requires : goal.knows-requires
knows-requires c = let a = c.args in let h = object_range a.n a.t a.o (sym c.in_range.ensures ∙ not-false _ c.if-not-in_range.false-raw) in omega arith

pub returns-then-not-knows : goal.returns-then-not-knows
unfolding read_tests
returns-then-not-knows c = need_fails _ _ _ _ (sym c.knows.ensures ∙ not-true _ c.if-not-knows.true-raw) ∙ need_holds _ _ _ _ (sym c.can_read.ensures ∙ not-false _ c.if-not-can_read.false-raw) ∙ need_holds _ _ _ _ (sym c.has.ensures ∙ not-false _ c.if-not-has.false-raw) ∙ need_holds _ _ _ _ (sym c.in_range.ensures ∙ not-false _ c.if-not-in_range.false-raw)

pub returns : goal.returns
unfolding read_tests
returns c = all_passed ∙ need_holds _ _ _ _ (sym c.knows.ensures ∙ not-false _ c.if-not-knows.false-raw) ∙ need_holds _ _ _ _ (sym c.can_read.ensures ∙ not-false _ c.if-not-can_read.false-raw) ∙ need_holds _ _ _ _ (sym c.has.ensures ∙ not-false _ c.if-not-has.false-raw) ∙ need_holds _ _ _ _ (sym c.in_range.ensures ∙ not-false _ c.if-not-in_range.false-raw)
