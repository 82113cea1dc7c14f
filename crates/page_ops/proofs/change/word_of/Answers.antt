-- The word stands where `slot_at` says. Assumes nothing.
use Prim.Native.Nat.{ℕ}
use mathlib.Core.Path.{ap}
use lib.ListN.{get_or}
use Rattle.page_ops.proofs.change.word_of.Goals as goal

pub returns : goal.returns
returns c = ap (λ (i : ℕ). get_or c.args.a.now i 0) c.slot_at.ensures
