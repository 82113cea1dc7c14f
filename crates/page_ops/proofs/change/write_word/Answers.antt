-- The word stands where `slot_at` says. Assumes nothing.
use Prim.Native.Nat.{ℕ}
use mathlib.Core.Path.{ap}
use lib.ListN.{set}
use Rattle.page_ops.proofs.change.write_word.Goals as goal

pub returns : goal.returns
returns c = let a = c.args in ap (λ (i : ℕ). set a.a.now i a.v) c.slot_at.ensures
