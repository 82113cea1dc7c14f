use native.Mathlib.Omega.{arith}
use mathlib.Core.Path.{◌≡◌}
use Rattle.store_ops.specs.Tables.{part_none, part_turn}
use Rattle.store_ops.proofs.tables.leave_all.Goals as goal

pub loop-mask-init : goal.loop-mask-init
loop-mask-init c = part_none _ _ _ _

pub loop-mask-preserved : goal.loop-mask-preserved
loop-mask-preserved c = part_turn _ _ _ _ _ _ _ c.loop-mask.invariant (omega arith) (omega arith) c.without_bit.ensures

pub returns : goal.returns
returns c = let e : c.loop-mask.mask-index ≡ c.args.k = omega arith in rw e at c.loop-mask.invariant
