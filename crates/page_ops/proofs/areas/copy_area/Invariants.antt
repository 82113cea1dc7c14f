-- Invariant: the words passed are those of the other area. Assumes nothing.
use mathlib.Core.Path.{◌≡◌}
use lib.ListN.{length, get_or}
use Rattle.page_ops.specs.Filling.{FilledTo}
use Rattle.page_ops.proofs.areas.copy_area.Given as goal

abbrev pub invariant-loop-i : goal.invariant-loop-i
invariant-loop-i l = (length l.to ≡ length l.from) × FilledTo l.to (λ k. get_or l.from k 0) l.i
