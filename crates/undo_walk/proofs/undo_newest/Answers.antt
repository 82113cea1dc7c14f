use native.Mathlib.Omega.{arith}
use Rattle.undo_walk.specs.Going.{going_start, going_some, going_inside, going_past, going_ready, going_left, going_end}
use Rattle.undo_walk.specs.Taking.{change_undone}
use mathlib.Core.Path.{◌∙◌, sym}
use Rattle.undo_walk.proofs.undo_newest.Goals as goal

pub bounds-counts-0 : goal.bounds-counts-0
bounds-counts-0 c = let h = c.requires.kept.two in omega arith

pub overflow_cast-i : goal.overflow_cast-i
overflow_cast-i c = let h = c.requires.kept.few in omega arith

pub loop-left-init : goal.loop-left-init
loop-left-init c = going_start _ _ _ _ _ _ _ c.requires

pub overflow_sub-i : goal.overflow_sub-i
overflow_sub-i c = let h = going_some _ _ _ _ _ _ _ _ _ _ _ _ _ _ c.requires c.loop-left.invariant c.loop-left-test.true in omega arith

pub record_at-r-requires : goal.record_at-r-requires
record_at-r-requires c = (going_inside _ _ _ _ _ _ _ _ _ _ _ _ _ _ c.requires c.loop-left.invariant c.loop-left-test.true).0

pub undoing_at-requires : goal.undoing_at-requires
undoing_at-requires c = (c.requires.tables.0, (going_inside _ _ _ _ _ _ _ _ _ _ _ _ _ _ c.requires c.loop-left.invariant c.loop-left-test.true).2)

pub offset_bounds-work-undoing_at : goal.offset_bounds-work-undoing_at
offset_bounds-work-undoing_at c = let l = going_inside _ _ _ _ _ _ _ _ _ _ _ _ _ _ c.requires c.loop-left.invariant c.loop-left-test.true in omega arith

pub bounds-work-undoing_at : goal.bounds-work-undoing_at
bounds-work-undoing_at c = let l = going_inside _ _ _ _ _ _ _ _ _ _ _ _ _ _ c.requires c.loop-left.invariant c.loop-left-test.true in omega arith

pub turn_at-turn-requires : goal.turn_at-turn-requires
turn_at-turn-requires c = let l = going_inside _ _ _ _ _ _ _ _ _ _ _ _ _ _ c.requires c.loop-left.invariant c.loop-left-test.true in omega arith

pub loop-left-smaller-in-Some : goal.loop-left-smaller-in-Some
loop-left-smaller-in-Some c = let h = going_some _ _ _ _ _ _ _ _ _ _ _ _ _ _ c.requires c.loop-left.invariant c.loop-left-test.true in omega arith

pub loop-left-preserved-in-Some : goal.loop-left-preserved-in-Some
loop-left-preserved-in-Some c = going_past _ _ _ _ _ _ _ _ _ _ _ _ _ _ c.requires c.loop-left.invariant c.loop-left-test.true _ _ c.record_at-r.ensures c.undoing_at.ensures _ (sym c.turn_at-turn.ensures ∙ c.in-Some.is)

pub bounds-counts-0-in-None : goal.bounds-counts-0-in-None
bounds-counts-0-in-None c = let h = c.loop-left.invariant.counts_len in let k = c.requires.kept.two in omega arith

pub note_back-requires : goal.note_back-requires
note_back-requires c = let h = going_ready _ _ _ _ _ _ _ _ _ _ _ _ _ _ c.requires c.loop-left.invariant c.loop-left-test.true _ _ c.record_at-r.ensures c.undoing_at.ensures (sym c.turn_at-turn.ensures ∙ c.in-None.is) in let l = going_inside _ _ _ _ _ _ _ _ _ _ _ _ _ _ c.requires c.loop-left.invariant c.loop-left-test.true in (omega arith, h.object, omega arith, h.txn)

pub append-requires : goal.append-requires
append-requires c = rw c.undoing.ensures (going_ready _ _ _ _ _ _ _ _ _ _ _ _ _ _ c.requires c.loop-left.invariant c.loop-left-test.true _ _ c.record_at-r.ensures c.undoing_at.ensures (sym c.turn_at-turn.ensures ∙ c.in-None.is)).fits

pub loop-left-smaller : goal.loop-left-smaller
loop-left-smaller c = let h = going_some _ _ _ _ _ _ _ _ _ _ _ _ _ _ c.requires c.loop-left.invariant c.loop-left-test.true in omega arith

pub loop-left-preserved : goal.loop-left-preserved
loop-left-preserved c = let k = c.append.auto in going_left _ _ _ _ _ _ _ _ _ _ _ _ _ _ c.requires c.loop-left.invariant c.loop-left-test.true _ _ c.record_at-r.ensures c.undoing_at.ensures (sym c.turn_at-turn.ensures ∙ c.in-None.is) _ _ _ _ k.received k.log k.counts c.note_back.auto.work (change_undone _ _ _ _ _ _ _ _ _ _ _ _ _ c.undoing.ensures c.note_back.ensures c.append.ensures)

pub shape_of-received : goal.shape_of-received
shape_of-received c = c.loop-left.invariant.pages_len

pub shape_of-log : goal.shape_of-log
shape_of-log c = c.loop-left.invariant.log_len

pub shape_of-counts : goal.shape_of-counts
shape_of-counts c = c.loop-left.invariant.counts_len

pub shape_of-work : goal.shape_of-work
shape_of-work c = c.loop-left.invariant.tables_len

pub returns : goal.returns
returns c = going_end _ _ _ _ _ _ _ _ _ _ _ _ _ _ c.loop-left.invariant (omega arith)
