-- Invariant: the rows passed are kept or zero, the rest are the table's. Assumes nothing.
use Prim.Native.Nat.{◌≤◌}
use mathlib.Core.Path.{◌≡◌}
use mathlib.Core.List.{◌++◌}
use lib.ListN.{drop}
use Rattle.pages.specs.Geometry.{slot_count}
use Rattle.pages.specs.Table.{tabulate}
use Rattle.page_rows.specs.TableLaws.{freed_row}
use Rattle.page_rows.proofs.rows.freed_rows.Given as goal

abbrev pub invariant-loop-s : goal.invariant-loop-s
invariant-loop-s l = (l.s ≤ slot_count) × (l.row-items ≡ tabulate (freed_row l.fn.t l.m) l.s ++ drop l.s l.fn.t)
