use Prim.Native.Nat.{◌-◌}
use Rattle.grey_search.specs.Greys.{grey_none, grey_same}
use native.Mathlib.Omega.{arith}
use Rattle.grey_search.proofs.grey_page.Goals as goal

pub loop-p-init : goal.loop-p-init
loop-p-init c = (omega arith, grey_same _ _ (grey_none _ _) (omega arith))

pub page_greys-requires : goal.page_greys-requires
page_greys-requires c = (c.requires, c.loop-p-test.true, c.loop-p.invariant.1)

pub loop-p-preserved : goal.loop-p-preserved
loop-p-preserved c = (omega arith, grey_same _ _ (c.page_greys.ensures (omega arith)) (omega arith))

pub returns : goal.returns
returns c = (omega arith, grey_same _ _ c.loop-p.invariant.1 (omega arith))
