use mathlib.Core.Path.{sym, ◌∙◌}
use borrow.Author.Tests.{not-true, not-false}
use Rattle.transactions.specs.Checks.{commit_outside, commit_inactive, commit_unflushed, commit_passes, commit_full}
use Rattle.transactions.proofs.committing.commit_check.Goals as goal

pub returns-then-t-ge-TXNS : goal.returns-then-t-ge-TXNS
returns-then-t-ge-TXNS c = commit_outside _ _ _ c.if-t-ge-TXNS.true

pub returns-then-not-has : goal.returns-then-not-has
returns-then-not-has c = commit_inactive _ _ _ c.if-t-ge-TXNS.false (sym c.has.ensures ∙ not-true _ c.if-not-has.true-raw)

pub returns-then-not-all_flushed : goal.returns-then-not-all_flushed
returns-then-not-all_flushed c = commit_unflushed _ _ _ c.if-t-ge-TXNS.false (sym c.has.ensures ∙ not-false _ c.if-not-has.false-raw) (sym c.all_flushed.ensures ∙ not-true _ c.if-not-all_flushed.true-raw)

pub returns-then-room_within : goal.returns-then-room_within
returns-then-room_within c = commit_passes _ _ _ c.if-t-ge-TXNS.false (sym c.has.ensures ∙ not-false _ c.if-not-has.false-raw) (sym c.all_flushed.ensures ∙ not-false _ c.if-not-all_flushed.false-raw) (sym c.room_within.ensures ∙ c.if-room_within.true)

pub returns-else-room_within : goal.returns-else-room_within
returns-else-room_within c = commit_full _ _ _ c.if-t-ge-TXNS.false (sym c.has.ensures ∙ not-false _ c.if-not-has.false-raw) (sym c.all_flushed.ensures ∙ not-false _ c.if-not-all_flushed.false-raw) (sym c.room_within.ensures ∙ c.if-room_within.false)
