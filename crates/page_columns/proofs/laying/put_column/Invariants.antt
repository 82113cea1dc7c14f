-- Invariant: the words passed are column w of the table, the rest as at entry. Assumes nothing.
use Prim.Native.Nat.{◌≤◌, ◌-◌}
use mathlib.Core.Path.{◌≡◌}
use mathlib.Core.List.{[]}
use lib.Seq.{paste}
use lib.ListN.{length, get_or}
use Rattle.pages.specs.Geometry.{slot_count}
use Rattle.columns.specs.Columns.{columns_of}
use Rattle.page_columns.proofs.laying.put_column.Given as goal

abbrev pub invariant-loop-s : goal.invariant-loop-s
invariant-loop-s l = (l.s ≤ slot_count) × (length l.out ≡ length l.initial.out) × (l.out ≡ paste l.initial.out l.b (get_or (columns_of l.t) l.w []) l.s)

abbrev pub decreases-loop-s : goal.decreases-loop-s
decreases-loop-s l = slot_count - l.s
