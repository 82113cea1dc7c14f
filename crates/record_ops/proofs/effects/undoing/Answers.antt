use mathlib.Core.Path.{sym, ◌∙◌}
use borrow.Author.Tests.{eq-eqb, ne_eqb}
use Rattle.words.specs.Tests.{if_t, if_f}
use Rattle.records.specs.Effects.{undoing}
use Rattle.record_ops.proofs.effects.undoing.Goals as goal

pub returns-then-r-eq-CREATE : goal.returns-then-r-eq-CREATE
unfolding undoing
returns-then-r-eq-CREATE c = c.uncreate_of.ensures ∙ sym (if_t _ _ _ (eq-eqb _ _ c.if-r-eq-CREATE.true))

pub returns : goal.returns
unfolding undoing
returns c = c.set_of.ensures ∙ sym (if_f _ _ _ (ne_eqb _ _ c.if-r-eq-CREATE.false))
