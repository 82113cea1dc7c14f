use mathlib.Core.Path.{sym, ◌∙◌}
use native.Mathlib.Omega.{arith}
use Rattle.aborts.specs.Rolling.{rolling_start, rolling_some, rolling_inside, rolling_fits, rolling_left, rolling_past, rolling_end}
use Rattle.aborts.proofs.undoing.roll_back.Goals as goal

pub overflow_cast-i : goal.overflow_cast-i
overflow_cast-i c = let k = c.requires.kept in omega arith

pub changes_left-left-requires : goal.changes_left-left-requires
changes_left-left-requires c = let u = c.requires in record { kept = u.kept; has_undoing = (u.words, u.txn) }

pub loop-left-init : goal.loop-left-init
loop-left-init c = rolling_start _ _ _ _ _ _ _ c.requires c.changes_left-left.ensures.0

pub overflow_sub-i : goal.overflow_sub-i
overflow_sub-i c = let p = rolling_some _ _ _ _ _ _ _ _ _ _ _ _ c.requires c.loop-left.invariant c.loop-left-test.true in omega arith

pub record_at-r-requires : goal.record_at-r-requires
record_at-r-requires c = (rolling_inside _ _ _ _ _ _ _ _ _ _ _ _ c.requires c.loop-left.invariant c.loop-left-test.true).0

pub undoing_at-requires : goal.undoing_at-requires
undoing_at-requires c = let p = rolling_inside _ _ _ _ _ _ _ _ _ _ _ _ c.requires c.loop-left.invariant c.loop-left-test.true in let q = c.requires.words in (omega arith, omega arith)

pub offset_bounds-work-undoing_at : goal.offset_bounds-work-undoing_at
offset_bounds-work-undoing_at c = let p = rolling_inside _ _ _ _ _ _ _ _ _ _ _ _ c.requires c.loop-left.invariant c.loop-left-test.true in omega arith

pub bounds-work-undoing_at : goal.bounds-work-undoing_at
bounds-work-undoing_at c = let p = rolling_inside _ _ _ _ _ _ _ _ _ _ _ _ c.requires c.loop-left.invariant c.loop-left-test.true in omega arith

pub turn_at-turn-requires : goal.turn_at-turn-requires
turn_at-turn-requires c = (rolling_inside _ _ _ _ _ _ _ _ _ _ _ _ c.requires c.loop-left.invariant c.loop-left-test.true).3

pub append-requires : goal.append-requires
append-requires c = rolling_fits _ _ _ _ _ _ _ _ _ _ _ _ c.requires c.loop-left.invariant c.loop-left-test.true _ c.record_at-r.ensures _ (rw c.undoing_at.ensures at c.turn_at-turn.ensures) _ c.undoing.ensures c.in-None.is

pub loop-left-smaller-in-None : goal.loop-left-smaller-in-None
loop-left-smaller-in-None c = let p = rolling_some _ _ _ _ _ _ _ _ _ _ _ _ c.requires c.loop-left.invariant c.loop-left-test.true in omega arith

pub loop-left-preserved-in-None : goal.loop-left-preserved-in-None
loop-left-preserved-in-None c = let k = c.append.auto in rolling_left _ _ _ _ _ _ _ _ _ _ _ _ c.requires c.loop-left.invariant c.loop-left-test.true _ c.record_at-r.ensures _ (rw c.undoing_at.ensures at c.turn_at-turn.ensures) _ c.undoing.ensures c.in-None.is _ _ _ _ k.received k.log k.counts c.append.ensures

pub loop-left-smaller : goal.loop-left-smaller
loop-left-smaller c = let p = rolling_some _ _ _ _ _ _ _ _ _ _ _ _ c.requires c.loop-left.invariant c.loop-left-test.true in omega arith

pub loop-left-preserved : goal.loop-left-preserved
loop-left-preserved c = rolling_past _ _ _ _ _ _ _ _ _ _ _ _ c.requires c.loop-left.invariant c.loop-left-test.true _ c.record_at-r.ensures _ (rw c.undoing_at.ensures at c.turn_at-turn.ensures) _ c.in-Some.is

pub shape_of-received : goal.shape_of-received
shape_of-received c = c.loop-left.invariant.pages_len

pub shape_of-log : goal.shape_of-log
shape_of-log c = c.loop-left.invariant.log_len

pub shape_of-counts : goal.shape_of-counts
shape_of-counts c = c.loop-left.invariant.two ∙ sym c.requires.kept.two

pub returns : goal.returns
returns c = rolling_end _ _ _ _ _ _ _ _ _ _ _ _ c.loop-left.invariant (omega arith)
