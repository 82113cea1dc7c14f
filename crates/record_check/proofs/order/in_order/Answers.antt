use mathlib.Core.Bool.{not}
use mathlib.Core.Path.{sym, ap, ◌∙◌}
use borrow.Author.Tests.{eq-eqb, ne_eqb}
use Rattle.words.specs.Tests.{if_t, if_f, or_l}
use Rattle.record_laws.specs.RecordLaws.{or_f}
use Rattle.record_check.proofs.order.in_order.Goals as goal

pub returns-then-r-eq-SWEEP : goal.returns-then-r-eq-SWEEP
returns-then-r-eq-SWEEP c = sym (or_l _ _ (eq-eqb _ _ c.if-r-eq-SWEEP.true))

pub returns-then-r-eq-BEGIN : goal.returns-then-r-eq-BEGIN
returns-then-r-eq-BEGIN c = ap not c.has_bit-begun.ensures ∙ sym (or_f _ _ (ne_eqb _ _ c.if-r-eq-SWEEP.false) ∙ if_t _ _ _ (eq-eqb _ _ c.if-r-eq-BEGIN.true))

pub returns-else-r-eq-BEGIN : goal.returns-else-r-eq-BEGIN
returns-else-r-eq-BEGIN c = c.has_bit-begun.ensures ∙ sym (or_f _ _ (ne_eqb _ _ c.if-r-eq-SWEEP.false) ∙ if_f _ _ _ (ne_eqb _ _ c.if-r-eq-BEGIN.false))
