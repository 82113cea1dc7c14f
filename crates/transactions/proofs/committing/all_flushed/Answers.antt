use Prim.Native.Nat.{◌-◌}
use Rattle.areas.specs.Layout.{unflushed_at}
use Rattle.areas.specs.Tables.{has}
use Rattle.transactions.specs.Checks.{flushed_not, flushed_end}
use Rattle.words.specs.Tests.{all_none, all_more}
use mathlib.Core.Bool.{true, not}
use mathlib.Core.Path.{sym, ◌∙◌, ap}
use native.Mathlib.Omega.{arith}
use Rattle.transactions.proofs.committing.all_flushed.Goals as goal

pub loop-p-init : goal.loop-p-init
loop-p-init c = (omega arith, all_none _)

pub returns-then-has : goal.returns-then-has
returns-then-has c = flushed_not _ _ _ _ c.loop-p-test.true (rw c.unflushed_at.ensures at (sym c.has.ensures ∙ c.if-has.true))

pub loop-p-preserved : goal.loop-p-preserved
loop-p-preserved c = (omega arith, all_more _ _ c.loop-p.invariant.1 (ap not (rw c.unflushed_at.ensures at (sym c.has.ensures ∙ c.if-has.false))))

pub returns : goal.returns
returns c = flushed_end _ _ _ _ (omega arith) (omega arith) c.loop-p.invariant.1
