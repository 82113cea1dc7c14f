-- The head, then the rows of the table that the columns give. Assumes nothing.
use borrow.Author.Tests.{not-true, not-false}
use native.Mathlib.Omega.{arith}
use Prim.Native.Nat.{ℕ}
use mathlib.Core.Path.{sym, ap, ◌∙◌}
use mathlib.Core.List.{List}
use Rattle.columns.specs.Columns.{laid_out, from_columns}
use Rattle.column_laws.specs.Grids.{slots_full}
use Rattle.column_laws.specs.Arranging.{both_pages, refused, filled}
use Rattle.page_columns.specs.Laying.{head_laid_out, rows_laid}
use Rattle.page_columns.proofs.from_columns.Goals as goal

pub returns-then-not-two_pages : goal.returns-then-not-two_pages
returns-then-not-two_pages c = record { value = (refused _ _ from_columns (sym c.two_pages.ensures ∙ not-true _ c.if-not-two_pages.true-raw)).0; out_after = (refused _ _ from_columns (sym c.two_pages.ensures ∙ not-true _ c.if-not-two_pages.true-raw)).1 }

pub put_head-requires : goal.put_head-requires
put_head-requires c = let a = c.args in let h = both_pages a.page.now a.out.now (sym c.two_pages.ensures ∙ not-false _ c.if-not-two_pages.false-raw) in (omega arith, omega arith)

pub slots_in-t-requires : goal.slots_in-t-requires
slots_in-t-requires c = let a = c.args in let h = both_pages a.page.now a.out.now (sym c.two_pages.ensures ∙ not-false _ c.if-not-two_pages.false-raw) in omega arith

pub put_rows-requires : goal.put_rows-requires
put_rows-requires c = let a = c.args in let h = both_pages a.page.now a.out.now (sym c.two_pages.ensures ∙ not-false _ c.if-not-two_pages.false-raw) in let k = c.put_head.auto.out in omega arith

pub returns : goal.returns
unfolding from_columns
returns c = let a = c.args in let t = sym c.two_pages.ensures ∙ not-false _ c.if-not-two_pages.false-raw in let h = both_pages a.page.now a.out.now t in let table = c.slots_in-t.result in record {
  value = (filled a.page.now a.out.now from_columns t _ (c.put_rows.ensures
      ∙ rows_laid _ table (c.put_head.auto.out ∙ h.1) (rw c.slots_in-t.ensures (slots_full a.page.now))
      ∙ ap (λ (l : List ℕ). laid_out l table) c.put_head.ensures
      ∙ head_laid_out a.page.now a.out.now table (omega arith)
      ∙ ap (laid_out a.page.now) c.slots_in-t.ensures)).0;
  out_after = (filled a.page.now a.out.now from_columns t _ (c.put_rows.ensures
      ∙ rows_laid _ table (c.put_head.auto.out ∙ h.1) (rw c.slots_in-t.ensures (slots_full a.page.now))
      ∙ ap (λ (l : List ℕ). laid_out l table) c.put_head.ensures
      ∙ head_laid_out a.page.now a.out.now table (omega arith)
      ∙ ap (laid_out a.page.now) c.slots_in-t.ensures)).1;
}
