-- Invariant: the masks passed are ended entries, the rest is as at entry. Assumes nothing.
use Prim.Native.Nat.{◌+◌, ◌-◌}
use borrow.Rule.Slice.PartMut.{put_mid}
use mathlib.Core.Bool.{true}
use mathlib.Core.Path.{◌≡◌}
use Rattle.words.specs.Spans.{over}
use Rattle.calls.specs.Transactions.{ended_entry}
use Rattle.ended_entries.proofs.flag_each.Given as goal

abbrev pub invariant-loop-mask : goal.invariant-loop-mask
invariant-loop-mask l = put_mid l.a (l.a + l.k - l.a) l.fn.w l.mask-items ≡ over (ended_entry true l.t) l.fn.w l.a l.mask-index
