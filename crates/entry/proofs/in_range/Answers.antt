use native.Mathlib.Omega.{arith}
use mathlib.Core.Path.{sym, ◌∙◌}
use borrow.Author.Tests.{not-true, not-false}
use Rattle.acceptance.specs.Working.{counts_facts}
use Rattle.entry.specs.Range.{range_stops, work_stops, received_stops, copies_stop, range_goes}
use Rattle.entry.proofs.in_range.Goals as goal

pub returns-then-not-counts_in_range : goal.returns-then-not-counts_in_range
returns-then-not-counts_in_range c = range_stops _ _ _ _ _ _ _ (sym c.counts_in_range.ensures ∙ not-true _ c.if-not-counts_in_range.true-raw)

pub returns-then-not-work_in_range : goal.returns-then-not-work_in_range
returns-then-not-work_in_range c = work_stops _ _ _ _ _ _ _ (sym c.counts_in_range.ensures ∙ not-false _ c.if-not-counts_in_range.false-raw) (sym c.work_in_range.ensures ∙ not-true _ c.if-not-work_in_range.true-raw)

pub returns-then-not-area_sound : goal.returns-then-not-area_sound
returns-then-not-area_sound c = received_stops _ _ _ _ _ _ _ (sym c.counts_in_range.ensures ∙ not-false _ c.if-not-counts_in_range.false-raw) (sym c.work_in_range.ensures ∙ not-false _ c.if-not-work_in_range.false-raw) (sym c.area_sound.ensures ∙ not-true _ c.if-not-area_sound.true-raw)

pub returns-then-not-area_sound-2 : goal.returns-then-not-area_sound-2
returns-then-not-area_sound-2 c = copies_stop _ _ _ _ _ _ _ (sym c.counts_in_range.ensures ∙ not-false _ c.if-not-counts_in_range.false-raw) (sym c.work_in_range.ensures ∙ not-false _ c.if-not-work_in_range.false-raw) (sym c.area_sound.ensures ∙ not-false _ c.if-not-area_sound.false-raw) (sym c.area_sound-2.ensures ∙ not-true _ c.if-not-area_sound-2.true-raw)

pub overflow_cast-counts : goal.overflow_cast-counts
overflow_cast-counts c = omega (arith, c.shared_slice_known-6-1.given 0)

pub records_sound-requires : goal.records_sound-requires
records_sound-requires c = let k = counts_facts _ _ (sym c.counts_in_range.ensures ∙ not-false _ c.if-not-counts_in_range.false-raw) in (omega arith, omega arith, omega arith)

pub returns : goal.returns
returns c = range_goes _ _ _ _ _ _ _ (sym c.counts_in_range.ensures ∙ not-false _ c.if-not-counts_in_range.false-raw) (sym c.work_in_range.ensures ∙ not-false _ c.if-not-work_in_range.false-raw) (sym c.area_sound.ensures ∙ not-false _ c.if-not-area_sound.false-raw) (sym c.area_sound-2.ensures ∙ not-false _ c.if-not-area_sound-2.false-raw) c.records_sound.ensures
