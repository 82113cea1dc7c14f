use Rattle.locks.specs.Checks.{write_gains}
use Rattle.locks.proofs.let_write.Goals as goal

pub returns : goal.returns
returns c = write_gains _ _ _ _ c.readers_at.ensures c.writers_at.ensures c.lose.ensures c.gain.ensures
