use mathlib.Core.Path.{◌∙◌}
use Rattle.aborts.specs.Rolling.{end_fits, end_logged}
use Rattle.aborts.proofs.undoing.abort_log.Goals as goal

pub append-requires : goal.append-requires
append-requires c = let k = c.roll_back.auto in rw c.aborted_of.ensures (end_fits _ _ _ _ _ _ _ _ _ c.requires k.received k.log k.counts c.roll_back.ensures.1)

pub returns : goal.returns
returns c = end_logged _ _ _ _ _ _ _ _ _ (c.roll_back.auto.counts ∙ c.requires.kept.two) c.roll_back.ensures.0 (rw c.aborted_of.ensures at c.append.ensures)
