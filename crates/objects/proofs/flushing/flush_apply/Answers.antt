use Rattle.objects.proofs.flushing.flush_apply.Goals as goal

pub returns : goal.returns
returns c = (c.copy_rows.ensures, rw (← c.unflushed_at.ensures) c.lose.ensures)
