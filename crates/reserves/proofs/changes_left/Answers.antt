use mathlib.Core.Path.{◌∙◌}
use Rattle.reserves.specs.Reserves.{one_left}
use Rattle.reserves.proofs.changes_left.Goals as goal

pub returns : goal.returns
returns c = c.left_of.ensures.0 ∙ one_left _ _ _ _ _ _ _ c.mask_of.ensures c.requires.1 c.walk_down-walk.ensures
