use Prim.Native.Nat.{◌-◌}
use native.Mathlib.Omega.{arith}
use Rattle.rights.specs.Checks.{active_none, active_next, active_end}
use Rattle.rights.proofs.has_active.Goals as goal

pub loop-t-init : goal.loop-t-init
loop-t-init c = (omega arith, active_none _ _ _)

pub loop-t-preserved : goal.loop-t-preserved
loop-t-preserved c = (omega arith, active_next _ _ _ _ c.loop-t.invariant.1 c.has.ensures c.client_of.ensures)

pub returns : goal.returns
returns c = active_end _ _ _ _ (omega arith) (omega arith) c.loop-t.invariant.1
