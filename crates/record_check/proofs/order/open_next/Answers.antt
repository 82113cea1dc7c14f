use mathlib.Core.Path.{sym, ◌∙◌}
use borrow.Author.Tests.{eq-eqb, ne_eqb}
use Rattle.words.specs.Tests.{if_t, if_f}
use Rattle.record_check.proofs.order.open_next.Goals as goal

pub returns-then-r-eq-BEGIN : goal.returns-then-r-eq-BEGIN
returns-then-r-eq-BEGIN c = c.with_bit.ensures ∙ sym (if_t _ _ _ (eq-eqb _ _ c.if-r-eq-BEGIN.true))

pub returns-then-r : goal.returns-then-r
returns-then-r c = c.without_bit.ensures ∙ sym (if_f _ _ _ (ne_eqb _ _ c.if-r-eq-BEGIN.false) ∙ if_t _ _ _ c.if-r.true)

pub returns : goal.returns
returns c = sym (if_f _ _ _ (ne_eqb _ _ c.if-r-eq-BEGIN.false) ∙ if_f _ _ _ c.if-r.false)
