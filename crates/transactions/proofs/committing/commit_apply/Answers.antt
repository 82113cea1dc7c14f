use Rattle.calls.specs.Transactions.{committed}
use Rattle.log_ops.specs.Logs.{appended_out}
use Rattle.transactions.proofs.committing.commit_apply.Goals as goal

pub append-c-requires : goal.append-c-requires
append-c-requires c = rw c.commit_of.ensures c.requires.fits

pub returns : goal.returns
unfolding committed
returns c = λ s k. appended_out s k _ _ _ _ _ _ _ _ _ _ _ c.requires.fits.two (rw c.commit_of.ensures at c.append-c.ensures) c.end_tables.ensures
