use mathlib.Core.Path.{sym, ◌∙◌}
use borrow.Author.Tests.{not-true, not-false}
use Rattle.acceptance.specs.Rights.{grant_passes}
use Rattle.rights.specs.Checks.{grant_outside, grant_active}
use Rattle.rights.proofs.grant_check.Goals as goal

pub returns-then-not-c-page : goal.returns-then-not-c-page
returns-then-not-c-page c = grant_outside _ _ _ _ _ (not-true _ c.if-not-c-page.true-raw)

pub returns-then-has_active : goal.returns-then-has_active
returns-then-has_active c = grant_active _ _ _ _ _ (not-false _ c.if-not-c-page.false-raw) (sym c.has_active.ensures ∙ c.if-has_active.true)

pub returns-else-has_active : goal.returns-else-has_active
returns-else-has_active c = grant_passes _ _ _ _ _ (not-false _ c.if-not-c-page.false-raw) (sym c.has_active.ensures ∙ c.if-has_active.false)
