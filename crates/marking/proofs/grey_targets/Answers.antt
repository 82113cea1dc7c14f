use Prim.Native.Nat.{◌-◌}
use Rattle.marking.specs.Targets.{targets_free, targets_none, targets_next, targets_end}
use borrow.Author.Tests.{not-true, not-false}
use mathlib.Core.Path.{refl, sym, ◌∙◌}
use native.Mathlib.Omega.{arith}
use borrow.Author.Rules.{rules}
use Rattle.marking.proofs.grey_targets.Goals as goal

pub returns-then-not-occupied : goal.returns-then-not-occupied
returns-then-not-occupied c = targets_free _ _ _ _ (sym c.occupied.ensures ∙ not-true _ c.if-not-occupied.true-raw)

pub loop-f-init : goal.loop-f-init
loop-f-init c = (omega arith, refl, targets_none _ _ _ _)

pub loop-f-preserved : goal.loop-f-preserved
loop-f-preserved c = (search rules, search rules, targets_next _ _ _ _ _ _ _ c.loop-f.invariant.2 c.grey_target.ensures)

pub returns : goal.returns
returns c = targets_end _ _ _ _ _ _ c.loop-f.invariant.2 (omega arith) (sym c.occupied.ensures ∙ not-false _ c.if-not-occupied.false-raw)
