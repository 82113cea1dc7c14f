use native.Mathlib.Omega.{arith}
use Rattle.marks.specs.Places.{others_few, last_set}
use Rattle.areas.specs.Layout.{mark_count}
use mathlib.Core.Path.{refl}
use Prim.Native.Nat.{◌≤◌}
use Rattle.marks.proofs.set_last.Goals as goal

pub overflow_add-work : goal.overflow_add-work
overflow_add-work c = let f : c.move_up-others.result ≤ mark_count = others_few _ _ _ mark_count _ c.move_up-others.ensures.1 (omega arith) in omega arith

pub returns : goal.returns
returns c = last_set _ _ _ _ _ _ _ _ c.order_at-first.ensures refl c.move_up-others.ensures.0 c.move_up-others.ensures.1
