use native.Mathlib.Omega.{arith}
use Rattle.words.specs.Tests.{count}
use Rattle.words.specs.Spans.{over}
use Rattle.areas.specs.Layout.{mark_count}
use Rattle.calls.specs.Marks.{moved_up}
use Rattle.marks.specs.Places.{set_but, places_next, others_next, others_few}
use mathlib.Core.Path.{◌≡◌, refl}
use Prim.Native.Nat.{◌-◌}
use lib.ListN.{length-set}
use Rattle.marks.proofs.move_up.Goals as goal

pub loop-j-init : goal.loop-j-init
unfolding over set_but count
loop-j-init c = (omega arith, refl, refl, refl)

pub others_next-others-requires : goal.others_next-others-requires
others_next-others-requires c = others_few _ _ _ _ _ c.loop-j.invariant.3 c.loop-j.invariant.0

pub loop-j-preserved : goal.loop-j-preserved
loop-j-preserved c = (omega arith, simp length-set c.loop-j.invariant.1, places_next c.args.work.now c.args.i c.args.m c.args.a _ _ _ c.loop-j.invariant.2 refl _ c.moved_up.ensures, others_next c.args.work.now c.args.i c.args.m c.args.a _ _ _ c.loop-j.invariant.2 refl _ _ c.loop-j.invariant.3 c.others_next-others.ensures)

pub returns : goal.returns
returns c = let e : c.loop-j.j ≡ mark_count = omega arith in (rw e at c.loop-j.invariant.2, rw e at c.loop-j.invariant.3)
