use native.Mathlib.Omega.{arith}
use Rattle.acceptance.specs.Marks.{mark_facts}
use Rattle.marks.specs.Checks.{mark_as}
use Rattle.going_back.specs.Checks.{back_barred, back_unset, back_passes, back_full}
use mathlib.Core.Path.{sym, ◌∙◌}
use Rattle.going_back.proofs.back_check.Goals as goal

pub returns-in-Err : goal.returns-in-Err
returns-in-Err c = back_barred _ _ _ _ _ (sym (mark_as _ _ _ _ _ _ _ _ c.mark_check.ensures) ∙ c.in-Err.is)

pub order_at-requires : goal.order_at-requires
order_at-requires c = let f = mark_facts _ _ _ (sym c.mark_check.ensures ∙ c.in_default.is) in omega arith

pub bounds-work-order_at : goal.bounds-work-order_at
bounds-work-order_at c = let f = mark_facts _ _ _ (sym c.mark_check.ensures ∙ c.in_default.is) in omega arith

pub returns-then-work-order_at-eq0 : goal.returns-then-work-order_at-eq0
returns-then-work-order_at-eq0 c = back_unset _ _ _ _ (sym (mark_as _ _ _ _ _ _ _ _ c.mark_check.ensures) ∙ c.in_default.is) c.order_at.ensures c.if-work-order_at-eq0.true

pub since_mark-since-requires : goal.since_mark-since-requires
since_mark-since-requires c = let f = mark_facts _ _ _ (sym c.mark_check.ensures ∙ c.in_default.is) in record { kept = c.requires.kept; has_undoing = (c.requires.has_undoing, omega arith, omega arith) }

pub returns-then-room_within : goal.returns-then-room_within
returns-then-room_within c = back_passes _ _ _ _ (sym (mark_as _ _ _ _ _ _ _ _ c.mark_check.ensures) ∙ c.in_default.is) c.order_at.ensures c.if-work-order_at-eq0.false c.since_mark-since.ensures.0 (sym c.room_within.ensures ∙ c.if-room_within.true)

pub returns-else-room_within : goal.returns-else-room_within
returns-else-room_within c = back_full _ _ _ _ (sym (mark_as _ _ _ _ _ _ _ _ c.mark_check.ensures) ∙ c.in_default.is) c.order_at.ensures c.if-work-order_at-eq0.false c.since_mark-since.ensures.0 (sym c.room_within.ensures ∙ c.if-room_within.false)
