-- Invariant: the flag says whether the occupied slots passed agree. Assumes nothing.
use Prim.Native.Nat.{◌≤◌, ◌-◌}
use mathlib.Core.Path.{◌≡◌}
use mathlib.Core.Bool.{not, ◌||◌}
use Rattle.words.specs.Tests.{all}
use Rattle.words.specs.Bits.{bit}
use Rattle.pages.specs.Geometry.{slot_count}
use Rattle.pages.specs.Objects.{map_at}
use Rattle.pages.specs.Images.{slot_agrees}
use Rattle.page_rows.proofs.images.page_agrees.Given as goal

abbrev pub invariant-loop-s : goal.invariant-loop-s
invariant-loop-s l = (l.s ≤ slot_count) × (l.m ≡ map_at l.a l.p) × (l.ok ≡ all (λ k. not (bit l.m k) || slot_agrees l.image l.a l.p k) l.s)

abbrev pub decreases-loop-s : goal.decreases-loop-s
decreases-loop-s l = slot_count - l.s
