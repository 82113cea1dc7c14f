use native.Mathlib.Omega.{arith}
use Rattle.chain_trace.proofs.Trailing.{trail_start, trail_low, trail_top, trail_room, trail_next, trail_done}
use Rattle.chain_trace.proofs.trace.trace.Goals as goal

pub loop-x-init : goal.loop-x-init
loop-x-init c = trail_start _ _ _ c.requires

pub overflow_sub-x : goal.overflow_sub-x
overflow_sub-x c = trail_low _ _ _ _ _ c.loop-x.invariant

pub overflow_cast-x : goal.overflow_cast-x
overflow_cast-x c = let l = trail_top _ _ _ _ _ c.loop-x.invariant in record { fits = omega arith }

pub offset_bounds-from-x : goal.offset_bounds-from-x
offset_bounds-from-x c = let l = trail_top _ _ _ _ _ c.loop-x.invariant in record { fits = omega arith }

pub bounds-from-x : goal.bounds-from-x
bounds-from-x c = let l = trail_top _ _ _ _ _ c.loop-x.invariant in let k = trail_low _ _ _ _ _ c.loop-x.invariant in omega arith

pub offset_bounds-queue-d : goal.offset_bounds-queue-d
offset_bounds-queue-d c = let l = trail_room _ _ _ _ _ c.loop-x.invariant c.loop-x-test.true in record { fits = omega arith }

pub bounds-queue-d : goal.bounds-queue-d
bounds-queue-d c = trail_room _ _ _ _ _ c.loop-x.invariant c.loop-x-test.true

pub overflow_add-d : goal.overflow_add-d
overflow_add-d c = let l = trail_room _ _ _ _ _ c.loop-x.invariant c.loop-x-test.true in record { fits = omega arith }

pub loop-x-smaller : goal.loop-x-smaller
loop-x-smaller c = let l = trail_room _ _ _ _ _ c.loop-x.invariant c.loop-x-test.true in omega arith

pub loop-x-preserved : goal.loop-x-preserved
loop-x-preserved c = trail_next _ _ _ _ _ c.loop-x.invariant c.loop-x-test.true

pub returns : goal.returns
returns c = trail_done _ _ _ _ _ c.loop-x.invariant c.loop-x-test.false
