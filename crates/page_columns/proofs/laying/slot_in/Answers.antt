use native.Mathlib.Omega.{arith}
use Prim.Native.Nat.{ℕ}
use mathlib.Core.Path.{refl, ap}
use lib.ListN.{get_or, replicate}
use Rattle.pages.specs.Geometry.{slot_words}
use Rattle.columns.specs.Columns.{column_at}
use Rattle.page_rows.specs.TableLaws.{tab_none, tab_next, tab_end}
use Rattle.page_columns.proofs.laying.slot_in.Goals as goal

pub loop-w-init : goal.loop-w-init
loop-w-init c = (omega arith, tab_none _ _)

pub loop-w-preserved : goal.loop-w-preserved
loop-w-preserved c = let a = c.args in let l = c.loop-w in (omega arith, tab_next (λ w. get_or a.page.now (column_at w a.s) 0) l.w (replicate slot_words 0) 0 _ _ l.invariant.1 (ap (λ (i : ℕ). get_or a.page.now i 0) c.column_at.ensures) (omega arith))

pub returns : goal.returns
returns c = tab_end _ _ _ _ _ c.loop-w.invariant.1 (omega arith) refl
