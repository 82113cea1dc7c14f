use Rattle.sweep_maps.specs.Freed.{locked_at}
use Rattle.sweep_maps.proofs.locked.Goals as goal

pub returns : goal.returns
returns c = let a = c.args in locked_at a.work.now a.n a.p _ c.writers_at.ensures
