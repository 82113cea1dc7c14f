-- Invariant: t has left the masks passed, the rest is as at entry. Assumes nothing.
use Prim.Native.Nat.{◌+◌, ◌-◌}
use borrow.Rule.Slice.PartMut.{put_mid}
use mathlib.Core.Path.{◌≡◌}
use Rattle.calls.specs.Transactions.{leaves}
use Rattle.store_ops.proofs.tables.leave_all.Given as goal

abbrev pub invariant-loop-mask : goal.invariant-loop-mask
invariant-loop-mask l = put_mid l.a (l.a + l.k - l.a) l.fn.w l.mask-items ≡ leaves l.t l.fn.w l.a l.mask-index
