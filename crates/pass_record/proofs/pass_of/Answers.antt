use mathlib.Core.Path.{refl}
use Rattle.pass_record.specs.Step.{pass_of}
use Rattle.pass_record.proofs.pass_of.Goals as goal

pub returns : goal.returns
unfolding pass_of
returns c = refl
