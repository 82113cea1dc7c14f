use mathlib.Core.Path.{sym}
use borrow.Author.Tests.{eq-eqb, ne_eqb}
use Rattle.words.specs.Tests.{if_t, if_f}
use Rattle.record_check.proofs.sound.field_sound.Goals as goal

pub returns-then-r-eq-SET : goal.returns-then-r-eq-SET
returns-then-r-eq-SET c = sym (if_t _ _ _ (eq-eqb _ _ c.if-r-eq-SET.true))

pub returns-else-r-eq-SET : goal.returns-else-r-eq-SET
returns-else-r-eq-SET c = sym (if_f _ _ _ (ne_eqb _ _ c.if-r-eq-SET.false))
