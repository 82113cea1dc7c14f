use mathlib.Core.Path.{sym, ◌∙◌}
use borrow.Author.Tests.{eq-eqb, ne_eqb}
use Rattle.words.specs.Tests.{if_t, if_f}
use Rattle.record_check.proofs.sound.object_sound.Goals as goal

pub returns-then-r : goal.returns-then-r
returns-then-r c = sym (if_t _ _ _ c.if-r.true)

pub returns-then-r-eq-SWEEP : goal.returns-then-r-eq-SWEEP
returns-then-r-eq-SWEEP c = sym (if_f _ _ _ c.if-r.false ∙ if_t _ _ _ (eq-eqb _ _ c.if-r-eq-SWEEP.true))

pub returns-else-r-eq-SWEEP : goal.returns-else-r-eq-SWEEP
returns-else-r-eq-SWEEP c = sym (if_f _ _ _ c.if-r.false ∙ if_f _ _ _ (ne_eqb _ _ c.if-r-eq-SWEEP.false))
