-- Invariant: the rows passed are the slots, the rest still zero. Assumes nothing.
use Prim.Native.Nat.{◌≤◌}
use mathlib.Core.Path.{◌≡◌}
use mathlib.Core.List.{◌++◌}
use lib.ListN.{drop, get_or, replicate}
use Rattle.pages.specs.Geometry.{slot_count, slot_words}
use Rattle.pages.specs.Table.{tabulate}
use Rattle.columns.specs.Columns.{column_at}
use Rattle.page_columns.proofs.laying.slots_in.Given as goal

abbrev pub invariant-loop-s : goal.invariant-loop-s
invariant-loop-s l = (l.s ≤ slot_count) × (l.row-items ≡ tabulate (λ s. tabulate (λ w. get_or l.page (column_at w s) 0) slot_words) l.s ++ drop l.s (replicate slot_count (replicate slot_words 0)))
