use Rattle.rights.proofs.client_of.Goals as goal

pub returns : goal.returns
returns c = rw c.client_at.ensures
