use Rattle.undo_walk.specs.Going.{Going}
use Rattle.undo_walk.proofs.undo_newest.Given as goal

abbrev pub invariant-loop-left : goal.invariant-loop-left
invariant-loop-left l =
    Going l.initial.received l.initial.log l.initial.counts l.initial.work l.n l.t l.k l.received l.log l.counts l.work l.i l.left l.pending

abbrev pub decreases-loop-left : goal.decreases-loop-left
decreases-loop-left l =
    l.i
