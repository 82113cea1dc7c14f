-- Invariant: the columns passed are the table's, the rest as at entry. Assumes nothing.
use Prim.Native.Nat.{◌≤◌, ◌-◌}
use mathlib.Core.Path.{◌≡◌}
use lib.ListN.{length}
use Rattle.pages.specs.Geometry.{head_words, slot_count, slot_words}
use Rattle.columns.specs.Columns.{columns_of}
use Rattle.page_columns.specs.Laying.{laid_to}
use Rattle.page_columns.proofs.laying.put_columns.Given as goal

abbrev pub invariant-loop-w : goal.invariant-loop-w
invariant-loop-w l = (l.w ≤ slot_words) × (length l.out ≡ length l.initial.out) × (l.out ≡ laid_to head_words slot_count (columns_of l.t) l.initial.out l.w)

abbrev pub decreases-loop-w : goal.decreases-loop-w
decreases-loop-w l = slot_words - l.w
