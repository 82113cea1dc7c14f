use native.Mathlib.Omega.{arith}
use mathlib.Core.Path.{refl}
use mathlib.Core.List.{[]}
use lib.ListN.{get_or, replicate}
use Rattle.pages.specs.Geometry.{slot_count, slot_words}
use Rattle.pages.specs.Table.{tabulate}
use Rattle.columns.specs.Columns.{grid, column_at, slots_in}
use Rattle.page_rows.specs.TableLaws.{tab_none, tab_next, tab_end}
use Rattle.page_columns.proofs.laying.slots_in.Goals as goal

pub loop-s-init : goal.loop-s-init
loop-s-init c = (omega arith, tab_none _ _)

pub loop-s-preserved : goal.loop-s-preserved
loop-s-preserved c = let page = c.args.page.now in let l = c.loop-s in (omega arith, tab_next (λ s. tabulate (λ w. get_or page (column_at w s) 0) slot_words) l.s (replicate slot_count (replicate slot_words 0)) [] _ _ l.invariant.1 c.slot_in.ensures (omega arith))

pub returns : goal.returns
unfolding slots_in grid
returns c = tab_end _ _ _ _ _ c.loop-s.invariant.1 (omega arith) refl
