use Rattle.object_changes.proofs.creating.enter_new.Goals as goal

pub returns : goal.returns
returns c = rw (← c.unflushed_at.ensures, ← c.known_at.ensures, ← c.created_at.ensures) cc
