use mathlib.Core.Path.{sym, ◌∙◌}
use borrow.Author.Tests.{not-true, not-false}
use Rattle.look_calls.specs.PassShares.{share_malformed}
use Rattle.look_calls.proofs.shares.pass_share.Goals as goal

pub returns-then-not-well_formed : goal.returns-then-not-well_formed
returns-then-not-well_formed c = record { work_value = (share_malformed _ _ _ _ _ _ _ _ (sym c.well_formed-2.ensures ∙ not-true _ c.if-not-well_formed.true-raw)).0; share_after = (share_malformed _ _ _ _ _ _ _ _ (sym c.well_formed-2.ensures ∙ not-true _ c.if-not-well_formed.true-raw)).1 }

pub held_pass_share-requires : goal.held_pass_share-requires
held_pass_share-requires c = sym c.well_formed-2.ensures ∙ not-false _ c.if-not-well_formed.false-raw
