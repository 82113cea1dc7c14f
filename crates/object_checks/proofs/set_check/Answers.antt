use native.Mathlib.Omega.{arith}
use mathlib.Core.Path.{refl, sym, ap, ◌∙◌}
use mathlib.Core.Bool.{not}
use borrow.Author.Tests.{not-true, not-false}
use Rattle.areas.specs.Answers.{all_passed, need_holds, need_fails}
use Rattle.words.specs.Tests.{and_l, and_cong}
use Rattle.log_ops.specs.Logs.{room_in_law}
use Rattle.object_checks.specs.Tests.{object_range}
use Rattle.calls.specs.Objects.{set_tests}
use Rattle.object_checks.proofs.set_check.Goals as goal

pub returns-then-not-in_range-f : goal.returns-then-not-in_range-f
unfolding set_tests
returns-then-not-in_range-f c = need_fails _ _ _ _ (sym (and_cong c.in_range.ensures refl) ∙ not-true _ c.if-not-in_range-f.true-raw)

pub has-requires : goal.has-requires
has-requires c = let a = c.args in let h = object_range a.n a.t a.o (sym c.in_range.ensures ∙ and_l _ _ (not-false _ c.if-not-in_range-f.false-raw)) in omega arith

pub returns-then-not-has : goal.returns-then-not-has
unfolding set_tests
returns-then-not-has c = need_fails _ _ _ _ (sym c.has.ensures ∙ not-true _ c.if-not-has.true-raw) ∙ need_holds _ _ _ _ (sym (and_cong c.in_range.ensures refl) ∙ not-false _ c.if-not-in_range-f.false-raw)

pub overflow_sub-o : goal.overflow_sub-o
overflow_sub-o c = let a = c.args in let h = object_range a.n a.t a.o (sym c.in_range.ensures ∙ and_l _ _ (not-false _ c.if-not-in_range-f.false-raw)) in omega arith

pub can_write-requires : goal.can_write-requires
can_write-requires c = let a = c.args in let h = object_range a.n a.t a.o (sym c.in_range.ensures ∙ and_l _ _ (not-false _ c.if-not-in_range-f.false-raw)) in omega arith

pub returns-then-not-can_write : goal.returns-then-not-can_write
unfolding set_tests
returns-then-not-can_write c = need_fails _ _ _ _ (sym c.can_write.ensures ∙ not-true _ c.if-not-can_write.true-raw) ∙ need_holds _ _ _ _ (sym c.has.ensures ∙ not-false _ c.if-not-has.false-raw) ∙ need_holds _ _ _ _ (sym (and_cong c.in_range.ensures refl) ∙ not-false _ c.if-not-in_range-f.false-raw)

pub knows-requires : goal.knows-requires
knows-requires c = let a = c.args in let h = object_range a.n a.t a.o (sym c.in_range.ensures ∙ and_l _ _ (not-false _ c.if-not-in_range-f.false-raw)) in omega arith

pub may_write-requires : goal.may_write-requires
may_write-requires c = let a = c.args in let h = object_range a.n a.t a.o (sym c.in_range.ensures ∙ and_l _ _ (not-false _ c.if-not-in_range-f.false-raw)) in omega arith

pub returns-then-not-knows-may_write : goal.returns-then-not-knows-may_write
unfolding set_tests
returns-then-not-knows-may_write c = need_fails _ _ _ _ (sym (and_cong c.knows.ensures c.may_write.ensures) ∙ not-true _ c.if-not-knows-may_write.true-raw) ∙ need_holds _ _ _ _ (sym c.can_write.ensures ∙ not-false _ c.if-not-can_write.false-raw) ∙ need_holds _ _ _ _ (sym c.has.ensures ∙ not-false _ c.if-not-has.false-raw) ∙ need_holds _ _ _ _ (sym (and_cong c.in_range.ensures refl) ∙ not-false _ c.if-not-in_range-f.false-raw)

pub returns-then-names_itself : goal.returns-then-names_itself
unfolding set_tests
returns-then-names_itself c = need_fails _ _ _ _ (ap not (sym c.names_itself.ensures ∙ c.if-names_itself.true)) ∙ need_holds _ _ _ _ (sym (and_cong c.knows.ensures c.may_write.ensures) ∙ not-false _ c.if-not-knows-may_write.false-raw) ∙ need_holds _ _ _ _ (sym c.can_write.ensures ∙ not-false _ c.if-not-can_write.false-raw) ∙ need_holds _ _ _ _ (sym c.has.ensures ∙ not-false _ c.if-not-has.false-raw) ∙ need_holds _ _ _ _ (sym (and_cong c.in_range.ensures refl) ∙ not-false _ c.if-not-in_range-f.false-raw)

pub returns-then-not-room_beyond : goal.returns-then-not-room_beyond
unfolding set_tests
returns-then-not-room_beyond c = need_fails _ _ _ _ (sym (c.room_beyond.ensures ∙ room_in_law _ _ _ _ _ _ _ _) ∙ not-true _ c.if-not-room_beyond.true-raw) ∙ need_holds _ _ _ _ (ap not (sym c.names_itself.ensures ∙ c.if-names_itself.false)) ∙ need_holds _ _ _ _ (sym (and_cong c.knows.ensures c.may_write.ensures) ∙ not-false _ c.if-not-knows-may_write.false-raw) ∙ need_holds _ _ _ _ (sym c.can_write.ensures ∙ not-false _ c.if-not-can_write.false-raw) ∙ need_holds _ _ _ _ (sym c.has.ensures ∙ not-false _ c.if-not-has.false-raw) ∙ need_holds _ _ _ _ (sym (and_cong c.in_range.ensures refl) ∙ not-false _ c.if-not-in_range-f.false-raw)

pub returns : goal.returns
unfolding set_tests
returns c = all_passed ∙ need_holds _ _ _ _ (sym (c.room_beyond.ensures ∙ room_in_law _ _ _ _ _ _ _ _) ∙ not-false _ c.if-not-room_beyond.false-raw) ∙ need_holds _ _ _ _ (ap not (sym c.names_itself.ensures ∙ c.if-names_itself.false)) ∙ need_holds _ _ _ _ (sym (and_cong c.knows.ensures c.may_write.ensures) ∙ not-false _ c.if-not-knows-may_write.false-raw) ∙ need_holds _ _ _ _ (sym c.can_write.ensures ∙ not-false _ c.if-not-can_write.false-raw) ∙ need_holds _ _ _ _ (sym c.has.ensures ∙ not-false _ c.if-not-has.false-raw) ∙ need_holds _ _ _ _ (sym (and_cong c.in_range.ensures refl) ∙ not-false _ c.if-not-in_range-f.false-raw)
