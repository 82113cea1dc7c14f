use mathlib.Core.Path.{sym, ◌∙◌}
use borrow.Author.Tests.{not-true, not-false}
use Rattle.look_calls.specs.Chains.{chain_malformed}
use Rattle.look_calls.proofs.chain.Goals as goal

pub returns-then-not-well_formed : goal.returns-then-not-well_formed
returns-then-not-well_formed c = record { work_value = (chain_malformed _ _ _ _ _ _ _ _ (sym c.well_formed-2.ensures ∙ not-true _ c.if-not-well_formed.true-raw)).0; buffer_after = (chain_malformed _ _ _ _ _ _ _ _ (sym c.well_formed-2.ensures ∙ not-true _ c.if-not-well_formed.true-raw)).1 }

pub held_chain-requires : goal.held_chain-requires
held_chain-requires c = sym c.well_formed-2.ensures ∙ not-false _ c.if-not-well_formed.false-raw
