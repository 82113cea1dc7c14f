use native.Mathlib.Omega.{arith}
use Prim.Native.Nat.{◌/◌, ◌%◌, ◌^◌}
use Rattle.page_check.specs.SoundLaws.{slot_none, slot_next, faults_end, free_row}
use Rattle.pages.specs.Objects.{map_at, taken}
use Rattle.page_check.proofs.sound.slot_faults.Goals as goal

pub loop-s-init : goal.loop-s-init
loop-s-init c = (omega arith, slot_none _)

pub loop-s-preserved : goal.loop-s-preserved
loop-s-preserved c =
    let l = c.loop-s in
    let a = c.args in
    let t = taken a.a.now a.p l.s in
    let r = free_row (map_at a.a.now a.p / 2 ^ l.s % 2) (omega arith) in (
      omega arith,
      slot_next _ _ _ _ _ _ _ _ _ _ _ _ _ l.invariant.1 c.slot_at-b.ensures
          (c.faults-f0.ensures t r.0, c.faults-f1.ensures t r.1, c.faults-f2.ensures t r.2, c.faults-f3.ensures t r.3),
    )

pub returns : goal.returns
returns c = faults_end _ _ _ _ _ _ _ _ c.loop-s.invariant.1 (omega arith)
