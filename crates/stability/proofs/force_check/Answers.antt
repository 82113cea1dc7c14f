use Rattle.stability.specs.Checks.{force_passes, force_refuses}
use Rattle.stability.proofs.force_check.Goals as goal

pub returns-then-counts : goal.returns-then-counts
returns-then-counts c = force_passes _ c.if-counts.true

pub returns : goal.returns
returns c = force_refuses _ c.if-counts.false
