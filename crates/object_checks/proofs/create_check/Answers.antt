use native.Mathlib.Omega.{arith}
use mathlib.Core.Path.{sym, ap, ◌∙◌}
use borrow.Author.Tests.{not-true, not-false}
use Rattle.areas.specs.Answers.{all_passed, need_holds, need_fails}
use Rattle.object_checks.specs.Tests.{object_range}
use mathlib.Core.Bool.{not}
use Rattle.log_ops.specs.Logs.{room_in_law}
use Rattle.calls.specs.Objects.{create_tests}
use Rattle.object_checks.proofs.create_check.Goals as goal

pub returns-then-not-in_range : goal.returns-then-not-in_range
unfolding create_tests
returns-then-not-in_range c = need_fails _ _ _ _ (sym c.in_range.ensures ∙ not-true _ c.if-not-in_range.true-raw)

pub has-requires : goal.has-requires
has-requires c = let a = c.args in let h = object_range a.n a.t a.o (sym c.in_range.ensures ∙ not-false _ c.if-not-in_range.false-raw) in omega arith

pub returns-then-not-has : goal.returns-then-not-has
unfolding create_tests
returns-then-not-has c = need_fails _ _ _ _ (sym c.has.ensures ∙ not-true _ c.if-not-has.true-raw) ∙ need_holds _ _ _ _ (sym c.in_range.ensures ∙ not-false _ c.if-not-in_range.false-raw)

pub overflow_sub-o : goal.overflow_sub-o
overflow_sub-o c = let a = c.args in let h = object_range a.n a.t a.o (sym c.in_range.ensures ∙ not-false _ c.if-not-in_range.false-raw) in omega arith

pub can_write-requires : goal.can_write-requires
can_write-requires c = let a = c.args in let h = object_range a.n a.t a.o (sym c.in_range.ensures ∙ not-false _ c.if-not-in_range.false-raw) in omega arith

pub returns-then-not-can_write : goal.returns-then-not-can_write
unfolding create_tests
returns-then-not-can_write c = need_fails _ _ _ _ (sym c.can_write.ensures ∙ not-true _ c.if-not-can_write.true-raw) ∙ need_holds _ _ _ _ (sym c.has.ensures ∙ not-false _ c.if-not-has.false-raw) ∙ need_holds _ _ _ _ (sym c.in_range.ensures ∙ not-false _ c.if-not-in_range.false-raw)

pub occupied-requires : goal.occupied-requires
occupied-requires c = let a = c.args in let h = object_range a.n a.t a.o (sym c.in_range.ensures ∙ not-false _ c.if-not-in_range.false-raw) in omega arith

pub returns-then-occupied : goal.returns-then-occupied
unfolding create_tests
returns-then-occupied c = need_fails _ _ _ _ (ap not (sym c.occupied.ensures ∙ c.if-occupied.true)) ∙ need_holds _ _ _ _ (sym c.can_write.ensures ∙ not-false _ c.if-not-can_write.false-raw) ∙ need_holds _ _ _ _ (sym c.has.ensures ∙ not-false _ c.if-not-has.false-raw) ∙ need_holds _ _ _ _ (sym c.in_range.ensures ∙ not-false _ c.if-not-in_range.false-raw)

pub returns-then-not-room_beyond : goal.returns-then-not-room_beyond
unfolding create_tests
returns-then-not-room_beyond c = need_fails _ _ _ _ (sym (c.room_beyond.ensures ∙ room_in_law _ _ _ _ _ _ _ _) ∙ not-true _ c.if-not-room_beyond.true-raw) ∙ need_holds _ _ _ _ (ap not (sym c.occupied.ensures ∙ c.if-occupied.false)) ∙ need_holds _ _ _ _ (sym c.can_write.ensures ∙ not-false _ c.if-not-can_write.false-raw) ∙ need_holds _ _ _ _ (sym c.has.ensures ∙ not-false _ c.if-not-has.false-raw) ∙ need_holds _ _ _ _ (sym c.in_range.ensures ∙ not-false _ c.if-not-in_range.false-raw)

pub returns : goal.returns
unfolding create_tests
returns c = all_passed ∙ need_holds _ _ _ _ (sym (c.room_beyond.ensures ∙ room_in_law _ _ _ _ _ _ _ _) ∙ not-false _ c.if-not-room_beyond.false-raw) ∙ need_holds _ _ _ _ (ap not (sym c.occupied.ensures ∙ c.if-occupied.false)) ∙ need_holds _ _ _ _ (sym c.can_write.ensures ∙ not-false _ c.if-not-can_write.false-raw) ∙ need_holds _ _ _ _ (sym c.has.ensures ∙ not-false _ c.if-not-has.false-raw) ∙ need_holds _ _ _ _ (sym c.in_range.ensures ∙ not-false _ c.if-not-in_range.false-raw)
