use borrow.Author.Tests.{not-true, not-false}
use mathlib.Core.Path.{refl, sym, ◌∙◌}
use Rattle.reopening.proofs.recover_in.Goals as goal

pub returns-then-not-recover : goal.returns-then-not-recover
returns-then-not-recover c = (sym (not-true _ c.if-not-recover.true-raw) ∙ c.recover.ensures.0, refl, refl)

pub returns : goal.returns
returns c = (sym (not-false _ c.if-not-recover.false-raw) ∙ c.recover.ensures.0, c.copy_area-2.ensures ∙ c.recover.ensures.1, c.copy_area.ensures ∙ c.recover.ensures.1)
