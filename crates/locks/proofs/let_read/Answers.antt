use Rattle.locks.specs.Checks.{read_stays, read_gains}
use borrow.Author.Tests.{not-true, not-false}
use mathlib.Core.Path.{sym, ◌∙◌}
use Rattle.locks.proofs.let_read.Goals as goal

pub returns-then-not-can_write : goal.returns-then-not-can_write
returns-then-not-can_write c = read_gains _ _ _ _ c.readers_at.ensures (sym c.can_write.ensures ∙ not-true _ c.if-not-can_write.true-raw) c.gain.ensures

pub returns-else-not-can_write : goal.returns-else-not-can_write
returns-else-not-can_write c = read_stays _ _ _ _ (sym c.can_write.ensures ∙ not-false _ c.if-not-can_write.false-raw)
