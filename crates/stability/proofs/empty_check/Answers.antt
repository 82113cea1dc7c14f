use Rattle.stability.specs.Checks.{empty_busy, empty_refuses, empty_passes}
use borrow.Author.Tests.{not-true, not-false}
use Rattle.stability.proofs.empty_check.Goals as goal

pub returns-then-not-work-counts : goal.returns-then-not-work-counts
returns-then-not-work-counts c = empty_busy _ (not-true _ c.if-not-work-counts.true-raw)

pub returns-then-not-areas_agree : goal.returns-then-not-areas_agree
returns-then-not-areas_agree c = empty_refuses _ (not-false _ c.if-not-work-counts.false-raw) _ c.areas_agree.ensures c.requires.0 (not-true _ c.if-not-areas_agree.true-raw)

pub returns : goal.returns
returns c = empty_passes _ (not-false _ c.if-not-work-counts.false-raw) _ c.areas_agree.ensures c.requires.0 (not-false _ c.if-not-areas_agree.false-raw)
