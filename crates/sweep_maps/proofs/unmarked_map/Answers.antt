use Prim.Native.Nat.{◌-◌}
use Rattle.calls.specs.Pass.{unmarked}
use Rattle.sweep_maps.specs.Maps.{slot_next, slot_fits, map_end}
use Rattle.sweep_order.specs.Order.{unmarked_map}
use Rattle.words.specs.Bits.{map_of}
use mathlib.Core.Path.{refl}
use native.Mathlib.Omega.{arith}
use borrow.Author.Rules.{rules}
use Rattle.sweep_maps.proofs.unmarked_map.Goals as goal

pub loop-s-init : goal.loop-s-init
unfolding map_of
loop-s-init c = (omega arith, refl)

pub overflow_add-m : goal.overflow_add-m
overflow_add-m c = let h = slot_fits _ _ _ _ _ c.loop-s.invariant.1 c.slot_bit-m.ensures c.unmarked.ensures (omega arith) in record { fits = omega arith }

pub loop-s-preserved : goal.loop-s-preserved
loop-s-preserved c = (search rules, slot_next _ _ _ _ _ c.loop-s.invariant.1 c.slot_bit-m.ensures c.unmarked.ensures)

pub returns : goal.returns
unfolding unmarked_map
returns c = map_end _ _ _ _ c.loop-s.invariant.1 (omega arith)
