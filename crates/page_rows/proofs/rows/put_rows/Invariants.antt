-- Invariant: the rows passed are the table's, the rest as at entry. Assumes nothing.
use mathlib.Core.Path.{◌≡◌}
use Rattle.pages.specs.Table.{with_rows}
use Rattle.page_rows.proofs.rows.put_rows.Given as goal

abbrev pub invariant-loop-s : goal.invariant-loop-s
invariant-loop-s l = l.a ≡ with_rows l.initial.a l.p l.fn.t l.s
