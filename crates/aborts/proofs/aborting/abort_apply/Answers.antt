use Rattle.aborts.specs.Aborts.{aborted_out}
use Rattle.aborts.proofs.aborting.abort_apply.Goals as goal

pub returns : goal.returns
returns c = λ s. aborted_out s _ _ _ _ _ _ _ _ _ _ _ _ _ c.abort_log-c.ensures c.restore.ensures c.end_tables.ensures
