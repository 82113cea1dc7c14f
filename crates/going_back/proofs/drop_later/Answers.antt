use native.Mathlib.Omega.{arith}
use Rattle.areas.specs.Layout.{mark_count}
use Rattle.calls.specs.Marks.{dropped}
use Rattle.going_back.specs.Outcomes.{dropped_next}
use mathlib.Core.Path.{◌≡◌, refl, ◌∙◌}
use Prim.Native.Nat.{◌-◌}
use Rattle.going_back.proofs.drop_later.Goals as goal

pub loop-j-init : goal.loop-j-init
unfolding dropped
loop-j-init c = (omega arith, refl, refl)

pub drop_mark-requires : goal.drop_mark-requires
drop_mark-requires c = omega arith

pub loop-j-preserved : goal.loop-j-preserved
loop-j-preserved c = (omega arith, c.drop_mark.auto.work ∙ c.loop-j.invariant.1, dropped_next _ _ _ _ _ _ _ c.loop-j.invariant.2 c.drop_mark.ensures)

pub returns : goal.returns
returns c = let e : c.loop-j.j ≡ mark_count = omega arith in rw e at c.loop-j.invariant.2
