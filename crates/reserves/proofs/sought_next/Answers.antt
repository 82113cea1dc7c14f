use mathlib.Core.Path.{sym, ◌∙◌}
use borrow.Author.Tests.{eq-eqb, ne_eqb}
use Rattle.words.specs.Tests.{if_t, if_f}
use Rattle.reserves.proofs.sought_next.Goals as goal

pub returns-then-r-eq-BEGIN : goal.returns-then-r-eq-BEGIN
returns-then-r-eq-BEGIN c = c.without_bit.ensures ∙ sym (if_t _ _ _ (eq-eqb _ _ c.if-r-eq-BEGIN.true))

pub returns-else-r-eq-BEGIN : goal.returns-else-r-eq-BEGIN
returns-else-r-eq-BEGIN c = sym (if_f _ _ _ (ne_eqb _ _ c.if-r-eq-BEGIN.false))
