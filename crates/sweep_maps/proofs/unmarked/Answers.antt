use Rattle.sweep_maps.specs.Freed.{unmarked_at}
use mathlib.Core.Path.{refl}
use Rattle.sweep_maps.proofs.unmarked.Goals as goal

pub returns : goal.returns
returns c = unmarked_at c.args.work.now c.args.n c.args.p c.args.s _ _ _ refl c.colour_at.ensures c.created_at.ensures
