use native.Mathlib.Omega.{arith}
use mathlib.Core.Path.{sym, ◌∙◌}
use borrow.Author.Tests.{not-true, not-false}
use Rattle.words.specs.Tests.{and_r}
use Rattle.acceptance.specs.Lengths.{lengths_facts}
use Rattle.acceptance.specs.Entered.{formed_unfit, formed_zero, formed_range}
use Rattle.entry.specs.Range.{range_of_law}
use Rattle.entry.proofs.well_formed.Goals as goal

pub returns-then-not-own-fits : goal.returns-then-not-own-fits
returns-then-not-own-fits c = formed_unfit _ _ c.lengths_fit-fits.ensures (not-true _ c.if-not-own-fits.true-raw)

pub bounds-work-0 : goal.bounds-work-0
bounds-work-0 c = let h = lengths_facts _ _ _ _ _ _ (sym c.lengths_fit-fits.ensures ∙ and_r c.args.own _ (not-false _ c.if-not-own-fits.false-raw)) in omega arith

pub returns-then-work-eq0 : goal.returns-then-work-eq0
returns-then-work-eq0 c = formed_zero _ _ c.lengths_fit-fits.ensures (not-false _ c.if-not-own-fits.false-raw) c.if-work-eq0.true

pub in_range-requires : goal.in_range-requires
in_range-requires c = let h = lengths_facts _ _ _ _ _ _ (sym c.lengths_fit-fits.ensures ∙ and_r c.args.own _ (not-false _ c.if-not-own-fits.false-raw)) in (omega arith, omega arith, omega arith, omega arith, omega arith, omega arith, omega arith, omega arith)

pub returns : goal.returns
returns c = c.in_range.ensures ∙ range_of_law _ _ _ _ _ _ _ _ ∙ formed_range _ _ c.lengths_fit-fits.ensures (not-false _ c.if-not-own-fits.false-raw) c.if-work-eq0.false
