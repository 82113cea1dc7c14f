use Rattle.store_ops.proofs.tables.can_write.Goals as goal

pub returns : goal.returns
returns c = rw (c.has.ensures, c.writers_at.ensures)
