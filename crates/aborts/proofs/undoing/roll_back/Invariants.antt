use Rattle.aborts.specs.Rolling.{Rolling}
use Rattle.aborts.proofs.undoing.roll_back.Given as goal

abbrev pub invariant-loop-left : goal.invariant-loop-left
invariant-loop-left l = Rolling l.initial.received l.initial.log l.initial.counts l.work l.n l.t l.received l.log l.counts l.i l.left l.undone

abbrev pub decreases-loop-left : goal.decreases-loop-left
decreases-loop-left l = l.i
