use Rattle.marking.specs.Targets.{target_none, target_one}
use borrow.Author.Tests.{not-true, not-false}
use mathlib.Core.Path.{sym, ◌∙◌}
use Rattle.marking.proofs.grey_target.Goals as goal

pub returns-then-not-is_ref : goal.returns-then-not-is_ref
returns-then-not-is_ref c = target_none _ _ _ _ _ (sym c.is_ref.ensures ∙ not-true _ c.if-not-is_ref.true-raw)

pub returns : goal.returns
returns c = target_one _ _ _ _ _ _ _ (sym c.is_ref.ensures ∙ not-false _ c.if-not-is_ref.false-raw) c.word_of.ensures c.turn_grey.ensures
