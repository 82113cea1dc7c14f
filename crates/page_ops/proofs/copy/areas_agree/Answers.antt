use native.Mathlib.Omega.{arith}
use Rattle.words.specs.Spans.{same_none, same_next, same_end}
use Rattle.page_ops.proofs.copy.areas_agree.Goals as goal

pub loop-i-init : goal.loop-i-init
loop-i-init c = (omega arith, same_none _ _ _ _)

pub loop-i-preserved : goal.loop-i-preserved
loop-i-preserved c = (omega arith, same_next _ _ _ _ _ _ _ _ c.loop-i.invariant.1 (omega arith) (omega arith))

pub returns : goal.returns
returns c = same_end _ _ _ _ _ _ _ c.loop-i.invariant.1 (omega arith)
