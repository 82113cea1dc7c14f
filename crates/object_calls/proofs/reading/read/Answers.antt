use Rattle.object_calls.specs.Reading.{read_malformed}
use borrow.Author.Tests.{not-true, not-false}
use mathlib.Core.Path.{sym, ◌∙◌}
use Rattle.object_calls.proofs.reading.read.Goals as goal

pub returns-then-not-well_formed : goal.returns-then-not-well_formed
returns-then-not-well_formed c = record { work_after = (read_malformed _ _ _ _ _ _ _ _ _ (sym c.well_formed-2.ensures ∙ not-true _ c.if-not-well_formed.true-raw)).0; buffer_after = (read_malformed _ _ _ _ _ _ _ _ _ (sym c.well_formed-2.ensures ∙ not-true _ c.if-not-well_formed.true-raw)).1 }

pub held_read-requires : goal.held_read-requires
held_read-requires c = sym c.well_formed-2.ensures ∙ not-false _ c.if-not-well_formed.false-raw
