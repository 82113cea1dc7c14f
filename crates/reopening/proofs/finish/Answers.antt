use lib.ListN.{length-set}
use native.Mathlib.Omega.{arith}
use Rattle.reopening.proofs.finish.Goals as goal

pub bounds-work-1 : goal.bounds-work-1
bounds-work-1 c = simp length-set (omega arith)

pub returns : goal.returns
returns c = (c.empty.ensures.0, rw c.empty.ensures.1)
