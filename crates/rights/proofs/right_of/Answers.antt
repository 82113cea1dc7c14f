use Rattle.rights.proofs.right_of.Goals as goal

pub returns : goal.returns
returns c = rw c.right_at.ensures
