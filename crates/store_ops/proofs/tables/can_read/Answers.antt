use Rattle.store_ops.proofs.tables.can_read.Goals as goal

pub returns : goal.returns
returns c = rw (c.has-2.ensures, c.writers_at.ensures, c.has.ensures, c.readers_at.ensures)
