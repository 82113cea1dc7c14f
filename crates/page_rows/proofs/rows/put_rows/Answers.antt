use mathlib.Core.Path.{refl, ◌∙◌}
use Rattle.pages.specs.Table.{with_rows}
use Rattle.page_rows.specs.TableLaws.{rows_next}
use Rattle.page_rows.proofs.rows.put_rows.Goals as goal

pub loop-s-init : goal.loop-s-init
unfolding with_rows
loop-s-init c = refl

pub loop-s-preserved : goal.loop-s-preserved
loop-s-preserved c = c.put_row.ensures ∙ rows_next _ _ _ _ _ _ c.loop-s.invariant c.slot_at.ensures
