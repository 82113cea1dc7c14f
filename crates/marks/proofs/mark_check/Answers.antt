use native.Mathlib.Omega.{arith}
use Rattle.marks.specs.Checks.{mark_range, mark_outside, mark_inactive, mark_passes}
use borrow.Author.Tests.{not-true, not-false}
use mathlib.Core.Path.{sym, ◌∙◌}
use Rattle.marks.proofs.mark_check.Goals as goal

pub returns-then-not-t-m : goal.returns-then-not-t-m
returns-then-not-t-m c = mark_outside _ _ _ (not-true _ c.if-not-t-m.true-raw)

pub has-requires : goal.has-requires
has-requires c = let h = mark_range c.args.t c.args.m (not-false _ c.if-not-t-m.false-raw) in omega arith

pub returns-then-has : goal.returns-then-has
returns-then-has c = mark_passes _ _ _ (not-false _ c.if-not-t-m.false-raw) (sym c.has.ensures ∙ c.if-has.true)

pub returns-else-has : goal.returns-else-has
returns-else-has c = mark_inactive _ _ _ (not-false _ c.if-not-t-m.false-raw) (sym c.has.ensures ∙ c.if-has.false)
