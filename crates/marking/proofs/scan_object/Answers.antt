use Rattle.marking.specs.Targets.{scanned_by}
use Rattle.marking.proofs.scan_object.Goals as goal

pub returns : goal.returns
returns c = scanned_by _ _ _ _ _ _ c.grey_targets.ensures c.colour_at.ensures
