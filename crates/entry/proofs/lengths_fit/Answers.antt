use Rattle.areas.specs.Ranges.{lengths_fit}
use Rattle.entry.proofs.lengths_fit.Goals as goal

pub returns : goal.returns
unfolding lengths_fit
returns c = rw c.work_words.ensures
