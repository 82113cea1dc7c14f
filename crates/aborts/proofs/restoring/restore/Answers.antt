use native.Mathlib.Omega.{arith}
use mathlib.Core.Path.{◌≡◌, ◌∙◌, refl}
use Rattle.calls.specs.Transactions.{restored}
use Rattle.aborts.specs.Aborts.{restored_next}
use Rattle.aborts.proofs.restoring.restore.Goals as goal

pub loop-p-init : goal.loop-p-init
unfolding restored
loop-p-init c = (omega arith, refl, refl)

pub restore_page-requires : goal.restore_page-requires
restore_page-requires c = omega arith

pub loop-p-preserved : goal.loop-p-preserved
loop-p-preserved c = (omega arith, c.restore_page.auto.copies ∙ c.loop-p.invariant.1, restored_next _ _ _ _ _ _ _ c.loop-p.invariant.2 c.restore_page.ensures)

pub returns : goal.returns
returns c = let e : c.loop-p.p ≡ c.args.n = omega arith in rw e at c.loop-p.invariant.2
