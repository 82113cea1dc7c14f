use mathlib.Core.Path.{refl}
use Rattle.words.specs.Tests.{and_cong}
use Rattle.object_checks.proofs.names_itself.Goals as goal

pub returns : goal.returns
returns c = and_cong c.is_ref.ensures refl
