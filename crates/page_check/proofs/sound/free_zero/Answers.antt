-- No word is above the largest. Assumes nothing.
use mathlib.Core.Path.{◌∙◌}
use native.Mathlib.Omega.{arith}
use Rattle.page_check.specs.SoundLaws.{slots_free}
use Rattle.page_check.proofs.sound.free_zero.Goals as goal

pub returns : goal.returns
returns c = c.slot_faults.ensures ∙ slots_free _ _ (λ i. omega (arith, c.shared_slice_known-1.given i))
