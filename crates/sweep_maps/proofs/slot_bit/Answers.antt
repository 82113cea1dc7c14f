use mathlib.Core.Path.{sym, ◌∙◌}
use Rattle.words.specs.Tests.{if_t, if_f}
use Rattle.sweep_maps.proofs.slot_bit.Goals as goal

pub returns-then-chosen : goal.returns-then-chosen
returns-then-chosen c = c.mask_of.ensures ∙ sym (if_t _ _ _ c.if-chosen.true)

pub returns-else-chosen : goal.returns-else-chosen
returns-else-chosen c = sym (if_f _ _ _ c.if-chosen.false)
