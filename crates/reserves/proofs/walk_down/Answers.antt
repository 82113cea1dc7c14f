use mathlib.Core.Path.{◌≡◌, sym, ◌∙◌}
use native.Mathlib.Omega.{arith}
use Rattle.record_laws.specs.RecordLaws.{record_facts}
use Rattle.reserves.specs.Reserves.{walk_start, walk_past, walk_left, walk_on, walk_end, walk_done}
use Rattle.reserves.proofs.walk_down.Goals as goal

pub loop-i-init : goal.loop-i-init
loop-i-init c = (omega arith, walk_start _ _ _ _)

pub overflow_cast-t : goal.overflow_cast-t
overflow_cast-t c = let h = (record_facts _ _ _ _ _ c.record_at-r.ensures c.requires.sound (omega arith)).txn_below in omega arith

pub has_bit-requires : goal.has_bit-requires
has_bit-requires c = let h = (record_facts _ _ _ _ _ c.record_at-r.ensures c.requires.sound (omega arith)).txn_below in omega arith

pub bounds-undone-t : goal.bounds-undone-t
bounds-undone-t c = (record_facts _ _ _ _ _ c.record_at-r.ensures c.requires.sound (omega arith)).txn_below

pub offset_bounds-undone-t : goal.offset_bounds-undone-t
offset_bounds-undone-t c = let h = (record_facts _ _ _ _ _ c.record_at-r.ensures c.requires.sound (omega arith)).txn_below in omega arith

pub turn_at-turn-requires : goal.turn_at-turn-requires
turn_at-turn-requires c = let h = (record_facts _ _ _ _ _ c.record_at-r.ensures c.requires.sound (omega arith)).txn_below in let f = (c.loop-i.invariant.1.each _ h).few in omega arith

pub offset_bounds-changes-t : goal.offset_bounds-changes-t
offset_bounds-changes-t c = let h = (record_facts _ _ _ _ _ c.record_at-r.ensures c.requires.sound (omega arith)).txn_below in omega arith

pub bounds-changes-t : goal.bounds-changes-t
bounds-changes-t c = (record_facts _ _ _ _ _ c.record_at-r.ensures c.requires.sound (omega arith)).txn_below

pub overflow_add-changes : goal.overflow_add-changes
overflow_add-changes c = let h = (record_facts _ _ _ _ _ c.record_at-r.ensures c.requires.sound (omega arith)).txn_below in let f = (c.loop-i.invariant.1.each _ h).few in omega arith

pub bounds-changes-t-in-None : goal.bounds-changes-t-in-None
bounds-changes-t-in-None c = (record_facts _ _ _ _ _ c.record_at-r.ensures c.requires.sound (omega arith)).txn_below

pub loop-i-preserved-in-None : goal.loop-i-preserved-in-None
loop-i-preserved-in-None c = (omega arith, walk_left _ _ _ _ _ _ _ _ _ _ (omega arith) c.record_at-r.ensures c.loop-i.invariant.1 (record_facts _ _ _ _ _ c.record_at-r.ensures c.requires.sound (omega arith)).txn_below (sym c.has_bit.ensures ∙ c.if-has_bit.true) _ c.turn_at-turn.ensures c.in-None.is)

pub offset_bounds-undone-t-in-Some : goal.offset_bounds-undone-t-in-Some
offset_bounds-undone-t-in-Some c = let h = (record_facts _ _ _ _ _ c.record_at-r.ensures c.requires.sound (omega arith)).txn_below in omega arith

pub bounds-undone-t-in-Some : goal.bounds-undone-t-in-Some
bounds-undone-t-in-Some c = (record_facts _ _ _ _ _ c.record_at-r.ensures c.requires.sound (omega arith)).txn_below

pub sought_next-sought-requires : goal.sought_next-sought-requires
sought_next-sought-requires c = (record_facts _ _ _ _ _ c.record_at-r.ensures c.requires.sound (omega arith)).txn_below

pub loop-i-preserved-in-Some : goal.loop-i-preserved-in-Some
loop-i-preserved-in-Some c = (omega arith, walk_on _ _ _ _ _ _ _ _ _ _ (omega arith) c.record_at-r.ensures c.loop-i.invariant.1 (record_facts _ _ _ _ _ c.record_at-r.ensures c.requires.sound (omega arith)).txn_below (sym c.has_bit.ensures ∙ c.if-has_bit.true) _ c.turn_at-turn.ensures _ c.in-Some.is _ c.sought_next-sought.ensures)

pub loop-i-preserved : goal.loop-i-preserved
loop-i-preserved c = (omega arith, walk_past _ _ _ _ _ _ _ _ _ _ (omega arith) c.record_at-r.ensures c.loop-i.invariant.1 (sym c.has_bit.ensures ∙ c.if-has_bit.false))

pub returns-after-loop-i : goal.returns-after-loop-i
returns-after-loop-i c = let e : c.loop-i.i ≡ 0 = omega arith in walk_end _ _ _ _ _ _ _ (rw e at c.loop-i.invariant.1)

pub returns-then-sought-eq0 : goal.returns-then-sought-eq0
returns-then-sought-eq0 c = walk_done _ _ _ _ _ _ _ _ c.if-sought-eq0.true c.loop-i.invariant.1
