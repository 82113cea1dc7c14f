use Rattle.record_ranges.specs.Ranges.{strays_none}
use Rattle.record_ranges.proofs.strays.Goals as goal

pub returns : goal.returns
returns c = let s = c.args in strays_none s.before s.barred s.r
