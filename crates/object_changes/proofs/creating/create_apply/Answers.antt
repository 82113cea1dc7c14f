use Rattle.records.specs.Effects.{effect}
use Rattle.records.specs.Records.{recorded}
use lib.ListN.{get_or}
use mathlib.Core.Path.{ap, ◌∙◌}
use Rattle.object_changes.proofs.creating.create_apply.Goals as goal

pub append-requires : goal.append-requires
append-requires c = rw c.create_of.ensures c.requires.0

pub returns : goal.returns
returns c = let a = c.args in let e = c.create_of.ensures in let z = c.append.ensures in (z.0, z.1 ∙ ap (effect a.received.now) e, z.2 ∙ ap (recorded a.log.now (get_or a.counts.now 0 0)) e, z.3, c.enter_new.ensures)
