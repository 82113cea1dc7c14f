use Rattle.object_checks.proofs.may_write.Goals as goal

pub returns : goal.returns
returns c = cc
