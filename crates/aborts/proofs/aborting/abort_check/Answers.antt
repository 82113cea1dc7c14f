use mathlib.Core.Path.{sym, ◌∙◌}
use borrow.Author.Tests.{not-true, not-false}
use Rattle.aborts.specs.Aborts.{abort_outside, abort_inactive, abort_passes, abort_full}
use Rattle.aborts.proofs.aborting.abort_check.Goals as goal

pub returns-then-t-ge-TXNS : goal.returns-then-t-ge-TXNS
returns-then-t-ge-TXNS c = abort_outside _ _ _ c.if-t-ge-TXNS.true

pub returns-then-not-has : goal.returns-then-not-has
returns-then-not-has c = abort_inactive _ _ _ c.if-t-ge-TXNS.false (sym c.has.ensures ∙ not-true _ c.if-not-has.true-raw)

pub returns-then-room_within : goal.returns-then-room_within
returns-then-room_within c = abort_passes _ _ _ c.if-t-ge-TXNS.false (sym c.has.ensures ∙ not-false _ c.if-not-has.false-raw) c.changes_left-left.ensures.0 (sym c.room_within.ensures ∙ c.if-room_within.true)

pub returns-else-room_within : goal.returns-else-room_within
returns-else-room_within c = abort_full _ _ _ c.if-t-ge-TXNS.false (sym c.has.ensures ∙ not-false _ c.if-not-has.false-raw) c.changes_left-left.ensures.0 (sym c.room_within.ensures ∙ c.if-room_within.false)
