use native.Mathlib.Omega.{arith}
use lib.ListN.{length, length-set, get_or}
use Rattle.page_ops.specs.Filling.{filled_next, filled_same}
use Rattle.page_ops.proofs.areas.copy_area.Goals as goal

pub loop-i-init : goal.loop-i-init
loop-i-init c = (c.requires, λ k l. absurd (omega arith))

pub loop-i-preserved : goal.loop-i-preserved
loop-i-preserved c = (simp length-set c.loop-i.invariant.0, filled_next c.loop-i.to (λ k. get_or c.args.from.now k 0) (length c.args.from.now) c.loop-i.i c.loop-i.invariant.0 (omega arith) c.loop-i.invariant.1)

pub returns : goal.returns
returns c = filled_same c.loop-i.to c.args.from.now c.loop-i.i c.loop-i.invariant.0 (omega arith) c.loop-i.invariant.1
