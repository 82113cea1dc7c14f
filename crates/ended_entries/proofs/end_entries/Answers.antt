use borrow.Author.Tests.{not-true, not-false}
use native.Mathlib.Omega.{arith}
use mathlib.Core.Path.{refl}
use Rattle.words.specs.Spans.{over}
use Rattle.ended_entries.specs.Entries.{over_then, entries_left, entries_run}
use Rattle.ended_entries.proofs.end_entries.Goals as goal

pub returns-then-not-runs : goal.returns-then-not-runs
returns-then-not-runs c = entries_left _ _ _ _ _ (not-true _ c.if-not-runs.true-raw) c.leave_all.ensures

pub loop-j-init : goal.loop-j-init
unfolding over
loop-j-init c = (omega arith, refl, refl)

pub loop-j-preserved : goal.loop-j-preserved
loop-j-preserved c =
    (omega arith, omega arith, over_then _ _ _ _ _ _ _ _ _ c.loop-j.invariant.2 c.flag_run.ensures (omega arith) (omega arith))

pub returns : goal.returns
returns c =
    entries_run _ _ _ _ _ (not-false _ c.if-not-runs.false-raw)
    (over_then _ _ _ _ _ _ _ _ _ c.loop-j.invariant.2 c.flag_each.ensures (omega arith) (omega arith))
