-- Invariant: the words passed are place s of the columns, the rest still zero. Assumes nothing.
use Prim.Native.Nat.{◌≤◌}
use mathlib.Core.Path.{◌≡◌}
use mathlib.Core.List.{◌++◌}
use lib.ListN.{drop, get_or, replicate}
use Rattle.pages.specs.Geometry.{slot_words}
use Rattle.pages.specs.Table.{tabulate}
use Rattle.columns.specs.Columns.{column_at}
use Rattle.page_columns.proofs.laying.slot_in.Given as goal

abbrev pub invariant-loop-w : goal.invariant-loop-w
invariant-loop-w l = (l.w ≤ slot_words) × (l.word-items ≡ tabulate (λ w. get_or l.page (column_at w l.s) 0) l.w ++ drop l.w (replicate slot_words 0))
