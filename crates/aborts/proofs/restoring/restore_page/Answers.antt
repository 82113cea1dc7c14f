use mathlib.Core.Path.{sym, ◌∙◌}
use Rattle.words.specs.Tests.{if_t, if_f}
use Rattle.aborts.proofs.restoring.restore_page.Goals as goal

pub returns-then-can_write : goal.returns-then-can_write
returns-then-can_write c = c.copy_page.ensures ∙ sym (if_t _ _ _ (sym c.can_write.ensures ∙ c.if-can_write.true))

pub returns-else-can_write : goal.returns-else-can_write
returns-else-can_write c = sym (if_f _ _ _ (sym c.can_write.ensures ∙ c.if-can_write.false))
