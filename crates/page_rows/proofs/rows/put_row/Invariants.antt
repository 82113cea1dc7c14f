-- Invariant: the words passed are the row's, the rest as at entry. Assumes nothing.
use Prim.Native.Nat.{◌≤◌, ◌-◌}
use mathlib.Core.Path.{◌≡◌}
use lib.Seq.{paste}
use lib.ListN.{length}
use Rattle.pages.specs.Geometry.{slot_words}
use Rattle.page_rows.proofs.rows.put_row.Given as goal

abbrev pub invariant-loop-f : goal.invariant-loop-f
invariant-loop-f l = (l.f ≤ slot_words) × (length l.a ≡ length l.initial.a) × (l.a ≡ paste l.initial.a l.b l.r l.f)

abbrev pub decreases-loop-f : goal.decreases-loop-f
decreases-loop-f l = slot_words - l.f
