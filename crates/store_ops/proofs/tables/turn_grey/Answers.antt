use Rattle.store_ops.specs.Tables.{mark_facts, greyed_outside, greyed_white, greyed_marked}
use borrow.Author.Tests.{not-true, not-false}
use mathlib.Core.Path.{sym, ◌∙◌}
use borrow.Author.Rules.{rules}
use Rattle.store_ops.proofs.tables.turn_grey.Goals as goal

pub returns-then-not-may_mark : goal.returns-then-not-may_mark
returns-then-not-may_mark c = greyed_outside _ _ _ (sym c.may_mark.ensures ∙ not-true _ c.if-not-may_mark.true-raw)

pub colour_at-i-requires : goal.colour_at-i-requires
colour_at-i-requires c = let h = mark_facts c.args.w.now c.args.n c.args.o (sym c.may_mark.ensures ∙ not-false _ c.if-not-may_mark.false-raw) in search rules

pub bounds-w-i : goal.bounds-w-i
bounds-w-i c = let h = mark_facts c.args.w.now c.args.n c.args.o (sym c.may_mark.ensures ∙ not-false _ c.if-not-may_mark.false-raw) in search rules

pub bounds-w-i-then-w-i-eq-WHITE : goal.bounds-w-i-then-w-i-eq-WHITE
bounds-w-i-then-w-i-eq-WHITE c = let h = mark_facts c.args.w.now c.args.n c.args.o (sym c.may_mark.ensures ∙ not-false _ c.if-not-may_mark.false-raw) in search rules

pub returns-then-w-i-eq-WHITE : goal.returns-then-w-i-eq-WHITE
returns-then-w-i-eq-WHITE c = greyed_white _ _ _ c.colour_at-i.ensures (sym c.may_mark.ensures ∙ not-false _ c.if-not-may_mark.false-raw) c.if-w-i-eq-WHITE.true

pub returns-else-w-i-eq-WHITE : goal.returns-else-w-i-eq-WHITE
returns-else-w-i-eq-WHITE c = greyed_marked _ _ _ c.colour_at-i.ensures (sym c.may_mark.ensures ∙ not-false _ c.if-not-may_mark.false-raw) c.if-w-i-eq-WHITE.false
