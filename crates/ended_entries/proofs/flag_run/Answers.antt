use borrow.Author.Tests.{not-true}
use mathlib.Core.Path.{sym, ◌∙◌}
use Rattle.ended_entries.specs.Entries.{run_kept}
use Rattle.ended_entries.proofs.flag_run.Goals as goal

pub returns-then-not-has_bit : goal.returns-then-not-has_bit
returns-then-not-has_bit c = sym (run_kept _ _ _ _ (rw c.masks_joined.ensures at (sym c.has_bit.ensures ∙ not-true _ c.if-not-has_bit.true-raw)))
