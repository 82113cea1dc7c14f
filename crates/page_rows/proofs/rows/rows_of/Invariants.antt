-- Invariant: the rows passed are the page's, the rest still zero. Assumes nothing.
use Prim.Native.Nat.{◌≤◌}
use mathlib.Core.Path.{◌≡◌}
use mathlib.Core.List.{◌++◌}
use lib.ListN.{drop, replicate}
use Rattle.pages.specs.Geometry.{slot_count}
use Rattle.pages.specs.Table.{tabulate, row_of}
use Rattle.page_rows.specs.TableLaws.{zero_row}
use Rattle.page_rows.proofs.rows.rows_of.Given as goal

abbrev pub invariant-loop-s : goal.invariant-loop-s
invariant-loop-s l = (l.s ≤ slot_count) × (l.row-items ≡ tabulate (row_of l.a l.p) l.s ++ drop l.s (replicate slot_count zero_row))
