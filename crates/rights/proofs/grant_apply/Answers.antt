use Rattle.calls.specs.Rights.{right_given}
use Rattle.rights.proofs.grant_apply.Goals as goal

pub returns : goal.returns
unfolding right_given
returns c = rw c.right_at.ensures
