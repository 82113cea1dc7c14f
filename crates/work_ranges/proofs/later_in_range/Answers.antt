use mathlib.Core.Path.{refl}
use native.Mathlib.Omega.{arith}
use Rattle.work_ranges.specs.Scans.{later_go, up_to_as}
use Rattle.work_ranges.proofs.later_in_range.Goals as goal

pub returns : goal.returns
returns c = later_go _ _ _ (up_to_as _ _ _ _ _ _ _ c.words_up_to.ensures (omega arith) (omega arith) c.changes_top.ensures) (up_to_as _ _ _ _ _ _ _ c.words_up_to-2.ensures (omega arith) (omega arith) c.order_top.ensures) (up_to_as _ _ _ _ _ _ _ c.words_up_to-3.ensures (omega arith) (omega arith) c.client_top.ensures) (up_to_as _ _ _ _ _ _ _ c.words_up_to-4.ensures (omega arith) (omega arith) refl) (up_to_as _ _ _ _ _ _ _ c.words_up_to-5.ensures (omega arith) refl c.undoing_top.ensures)
