use Rattle.page_laws.specs.Places.{object_range}
use Rattle.words.specs.Tests.{if_t, if_f}
use borrow.Author.Tests.{not-true, not-false}
use mathlib.Core.Path.{sym, ◌∙◌}
use borrow.Author.Rules.{rules}
use Rattle.store_ops.proofs.tables.knows.Goals as goal

pub returns-then-not-is_object : goal.returns-then-not-is_object
returns-then-not-is_object c = sym (if_f _ _ _ (sym c.is_object.ensures ∙ not-true _ c.if-not-is_object.true-raw))

pub known_at-requires : goal.known_at-requires
known_at-requires c = let h = object_range c.args.n c.args.o (sym c.is_object.ensures ∙ not-false _ c.if-not-is_object.false-raw) in search rules

pub has-requires : goal.has-requires
has-requires c = let h = object_range c.args.n c.args.o (sym c.is_object.ensures ∙ not-false _ c.if-not-is_object.false-raw) in search rules

pub returns : goal.returns
returns c = rw (c.has.ensures, c.known_at.ensures) (sym (if_t _ _ _ (sym c.is_object.ensures ∙ not-false _ c.if-not-is_object.false-raw)))
