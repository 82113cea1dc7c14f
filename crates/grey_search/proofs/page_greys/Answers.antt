use Prim.Native.Nat.{◌-◌}
use Rattle.grey_search.specs.Greys.{page_next, grey_same}
use native.Mathlib.Omega.{arith}
use Rattle.grey_search.proofs.page_greys.Goals as goal

pub loop-k-init : goal.loop-k-init
loop-k-init c = (omega arith, λ z. grey_same _ _ c.requires.2 (omega arith))

pub loop-k-preserved : goal.loop-k-preserved
loop-k-preserved c = (omega arith, page_next _ _ _ _ _ _ _ c.colour_at-a.ensures c.loop-k.invariant.1 c.grey_one-greys.ensures)

pub returns : goal.returns
returns c = λ z. grey_same _ _ (c.loop-k.invariant.1 z) (omega arith)
