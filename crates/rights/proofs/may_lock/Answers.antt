use Rattle.rights.specs.Checks.{right_found}
use Rattle.rights.proofs.may_lock.Goals as goal

pub right_of-requires : goal.right_of-requires
right_of-requires c = rw c.client_of-c.ensures (c.requires.0, c.requires.3, c.requires.2)

pub returns : goal.returns
returns c = right_found _ _ _ _ _ c.client_of-c.ensures c.right_of.ensures
