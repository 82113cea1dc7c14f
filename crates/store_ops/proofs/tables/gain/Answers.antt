use mathlib.Core.Path.{ap}
use Prim.Native.Nat.{ℕ}
use lib.ListN.{set}
use Rattle.store_ops.proofs.tables.gain.Goals as goal

pub returns : goal.returns
returns c = ap (λ (v : ℕ). set c.args.w.now c.args.i v) c.with_bit.ensures
