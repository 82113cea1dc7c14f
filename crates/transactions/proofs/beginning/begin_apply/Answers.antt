use Rattle.calls.specs.Transactions.{begun}
use Rattle.log_ops.specs.Logs.{appended_out}
use Rattle.transactions.proofs.beginning.begin_apply.Goals as goal

pub append-c-requires : goal.append-c-requires
append-c-requires c = rw c.begin_of.ensures c.requires.fits

pub returns : goal.returns
unfolding begun
returns c = λ s k. appended_out s k _ _ _ _ _ _ _ _ _ _ _ c.requires.fits.two (rw c.begin_of.ensures at c.append-c.ensures) c.begin_tables.ensures
