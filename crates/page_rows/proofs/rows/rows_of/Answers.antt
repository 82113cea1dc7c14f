use native.Mathlib.Omega.{arith}
use mathlib.Core.Path.{refl, ap, ◌∙◌}
use mathlib.Core.List.{[]}
use lib.ListN.{replicate}
use Rattle.pages.specs.Geometry.{slot_count}
use Rattle.pages.specs.Table.{row_of, rows_of}
use Rattle.page_rows.specs.TableLaws.{words_from, zero_row, tab_none, tab_next, tab_end, row_words}
use Rattle.page_rows.proofs.rows.rows_of.Goals as goal

pub loop-s-init : goal.loop-s-init
loop-s-init c = (omega arith, tab_none _ _)

pub loop-s-preserved : goal.loop-s-preserved
loop-s-preserved c = let a = c.args in let l = c.loop-s in (omega arith, tab_next (row_of a.a.now a.p) l.s (replicate slot_count zero_row) [] _ _ l.invariant.1 (c.words_from.ensures ∙ ap (words_from a.a.now) c.slot_at.ensures ∙ row_words a.a.now a.p l.s) (omega arith))

pub returns : goal.returns
unfolding rows_of
returns c = tab_end _ _ _ _ _ c.loop-s.invariant.1 (omega arith) refl
