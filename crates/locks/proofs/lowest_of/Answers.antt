use Rattle.locks.specs.Checks.{lowest_txn}
use Rattle.locks.proofs.lowest_of.Goals as goal

pub returns : goal.returns
returns c = lowest_txn _ _ c.with_bit.ensures
