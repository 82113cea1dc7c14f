-- The head, then the columns of the page's table. Assumes nothing.
use borrow.Author.Tests.{not-true, not-false}
use native.Mathlib.Omega.{arith}
use Prim.Native.Nat.{ℕ}
use mathlib.Core.Path.{sym, ap, ◌∙◌}
use mathlib.Core.List.{List}
use Rattle.columns.specs.Columns.{laid_out, columns_of, to_columns}
use Rattle.column_laws.specs.Arranging.{both_pages, refused, filled}
use Rattle.page_columns.specs.Laying.{head_laid_out}
use Rattle.page_columns.proofs.to_columns.Goals as goal

pub returns-then-not-two_pages : goal.returns-then-not-two_pages
returns-then-not-two_pages c = record { value = (refused _ _ to_columns (sym c.two_pages.ensures ∙ not-true _ c.if-not-two_pages.true-raw)).0; out_after = (refused _ _ to_columns (sym c.two_pages.ensures ∙ not-true _ c.if-not-two_pages.true-raw)).1 }

pub put_head-requires : goal.put_head-requires
put_head-requires c = let a = c.args in let h = both_pages a.page.now a.out.now (sym c.two_pages.ensures ∙ not-false _ c.if-not-two_pages.false-raw) in (omega arith, omega arith)

pub rows_of-t-requires : goal.rows_of-t-requires
rows_of-t-requires c = let a = c.args in let h = both_pages a.page.now a.out.now (sym c.two_pages.ensures ∙ not-false _ c.if-not-two_pages.false-raw) in omega arith

pub put_columns-requires : goal.put_columns-requires
put_columns-requires c = let a = c.args in let h = both_pages a.page.now a.out.now (sym c.two_pages.ensures ∙ not-false _ c.if-not-two_pages.false-raw) in c.put_head.auto.out ∙ h.1

pub returns : goal.returns
unfolding to_columns
returns c = let a = c.args in let t = sym c.two_pages.ensures ∙ not-false _ c.if-not-two_pages.false-raw in let h = both_pages a.page.now a.out.now t in let table = c.rows_of-t.result in record {
  value = (filled a.page.now a.out.now to_columns t _ (c.put_columns.ensures
      ∙ ap (λ (l : List ℕ). laid_out l (columns_of table)) c.put_head.ensures
      ∙ head_laid_out a.page.now a.out.now (columns_of table) (omega arith)
      ∙ ap (λ (t : List (List ℕ)). laid_out a.page.now (columns_of t)) c.rows_of-t.ensures)).0;
  out_after = (filled a.page.now a.out.now to_columns t _ (c.put_columns.ensures
      ∙ ap (λ (l : List ℕ). laid_out l (columns_of table)) c.put_head.ensures
      ∙ head_laid_out a.page.now a.out.now (columns_of table) (omega arith)
      ∙ ap (λ (t : List (List ℕ)). laid_out a.page.now (columns_of t)) c.rows_of-t.ensures)).1;
}
