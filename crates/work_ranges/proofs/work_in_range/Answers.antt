use mathlib.Core.Path.{refl}
use native.Mathlib.Omega.{arith}
use borrow.Author.Tests.{not-true, not-false}
use Rattle.work_ranges.specs.Scans.{first_stops, runs_go, up_to_as}
use Rattle.work_ranges.proofs.work_in_range.Goals as goal

pub returns-then-not-w-m : goal.returns-then-not-w-m
returns-then-not-w-m c = first_stops _ _ _ refl refl refl refl (not-true _ c.if-not-w-m.true-raw)

pub returns : goal.returns
returns c = runs_go _ _ _ (up_to_as _ _ _ _ _ _ _ c.words_up_to.ensures (omega arith) (omega arith) refl) (up_to_as _ _ _ _ _ _ _ c.words_up_to-2.ensures (omega arith) (omega arith) refl) (up_to_as _ _ _ _ _ _ _ c.words_up_to-3.ensures (omega arith) (omega arith) refl) c.later_in_range.ensures (not-false _ c.if-not-w-m.false-raw)
