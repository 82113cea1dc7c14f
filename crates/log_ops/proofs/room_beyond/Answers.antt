use Rattle.log_ops.specs.Logs.{room_leb}
use Rattle.log_ops.proofs.room_beyond.Goals as goal

pub returns : goal.returns
returns c = room_leb _ _ _ _ _ _ _ c.undoing_at-from.ensures c.reserved-held.ensures.value
