use native.Mathlib.Omega.{arith}
use mathlib.Core.Path.{sym, ◌∙◌}
use borrow.Author.Tests.{not-true, not-false}
use Rattle.acceptance.specs.Lengths.{lengths_facts}
use Rattle.formatting.specs.Formats.{format_refuses, format_done}
use Rattle.formatting.proofs.format.Goals as goal

pub returns-then-not-lengths_fit : goal.returns-then-not-lengths_fit
returns-then-not-lengths_fit c = format_refuses _ _ _ _ _ _ (sym c.lengths_fit.ensures ∙ not-true _ c.if-not-lengths_fit.true-raw)

pub format_pages-requires : goal.format_pages-requires
format_pages-requires c = let h = lengths_facts _ _ _ _ _ _ (sym c.lengths_fit.ensures ∙ not-false _ c.if-not-lengths_fit.false-raw) in omega arith

pub format_pages-requires-2 : goal.format_pages-requires-2
format_pages-requires-2 c = let h = lengths_facts _ _ _ _ _ _ (sym c.lengths_fit.ensures ∙ not-false _ c.if-not-lengths_fit.false-raw) in omega arith

pub format_pages-requires-3 : goal.format_pages-requires-3
format_pages-requires-3 c = let h = lengths_facts _ _ _ _ _ _ (sym c.lengths_fit.ensures ∙ not-false _ c.if-not-lengths_fit.false-raw) in omega arith

pub format_tables-requires : goal.format_tables-requires
format_tables-requires c = let h = lengths_facts _ _ _ _ _ _ (sym c.lengths_fit.ensures ∙ not-false _ c.if-not-lengths_fit.false-raw) in omega arith

pub returns : goal.returns
returns c = format_done _ _ _ _ _ _ (sym c.lengths_fit.ensures ∙ not-false _ c.if-not-lengths_fit.false-raw) c.format_pages.ensures c.format_pages-2.ensures c.format_pages-3.ensures c.clear.ensures c.clear-2.ensures c.format_tables.ensures
