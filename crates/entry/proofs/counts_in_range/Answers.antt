use mathlib.Core.Path.{refl}
use Rattle.areas.specs.Ranges.{counts_in_range}
use Rattle.entry.proofs.counts_in_range.Goals as goal

pub returns : goal.returns
unfolding counts_in_range
returns c = refl
