use mathlib.Core.Path.{sym, ◌∙◌}
use Rattle.words.specs.Tests.{if_t, if_f}
use borrow.Author.Tests.{eq-eqb, ne_eqb}
use Rattle.ended_entries.proofs.flag_for.Goals as goal

pub returns-then-left-m : goal.returns-then-left-m
returns-then-left-m c = sym (if_t _ _ _ (eq-eqb _ _ c.if-left-m.true))

pub returns-else-left-m : goal.returns-else-left-m
returns-else-left-m c = c.mask_of.ensures ∙ sym (if_f _ _ _ (ne_eqb _ _ c.if-left-m.false))
