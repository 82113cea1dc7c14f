-- The tests in their order. Assumes nothing.
use native.Mathlib.Omega.{arith}
use mathlib.Core.Path.{sym, ◌∙◌}
use borrow.Author.Tests.{not-true, not-false}
use Rattle.pages.specs.Geometry.{is_object}
use Rattle.areas.specs.Answers.{all_passed, need_holds, need_fails}
use Rattle.calls.specs.Chains.{chain_tests}
use Rattle.acceptance.specs.Objects.{object_facts}
use Rattle.chain_trace.proofs.chain_check.Goals as goal

pub returns-then-not-o-n : goal.returns-then-not-o-n
unfolding chain_tests
returns-then-not-o-n c = need_fails _ _ _ _ (not-true (is_object c.args.n c.args.o) c.if-not-o-n.true-raw)

pub occupied-requires : goal.occupied-requires
occupied-requires c = let a = c.args in let h = object_facts a.n a.o (not-false _ c.if-not-o-n.false-raw) in omega arith

pub returns-then-occupied : goal.returns-then-occupied
unfolding chain_tests
returns-then-occupied c = all_passed ∙ need_holds _ _ _ _ (sym c.occupied.ensures ∙ c.if-occupied.true) ∙ need_holds _ _ _ _ (not-false _ c.if-not-o-n.false-raw)

pub returns : goal.returns
unfolding chain_tests
returns c = need_fails _ _ _ _ (sym c.occupied.ensures ∙ c.if-occupied.false) ∙ need_holds _ _ _ _ (not-false _ c.if-not-o-n.false-raw)
