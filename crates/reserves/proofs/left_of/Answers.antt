use mathlib.Core.Path.{sym, ◌∙◌}
use borrow.Author.Rules.{rules}
use Rattle.words.specs.Tests.{if_t, if_f}
use Rattle.reserves.proofs.left_of.Goals as goal

pub returns-then-has_bit : goal.returns-then-has_bit
returns-then-has_bit c = (sym (if_t _ _ _ (sym c.has_bit.ensures ∙ c.if-has_bit.true)), search rules)

pub returns-else-has_bit : goal.returns-else-has_bit
returns-else-has_bit c = (sym (if_f _ _ _ (sym c.has_bit.ensures ∙ c.if-has_bit.false)), search rules)
