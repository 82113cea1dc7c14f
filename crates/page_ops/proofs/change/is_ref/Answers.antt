-- The references are the first words. Assumes nothing.
use mathlib.Core.Path.{refl}
use Rattle.pages.specs.Geometry.{is_ref_at}
use Rattle.page_ops.proofs.change.is_ref.Goals as goal

pub returns : goal.returns
unfolding is_ref_at
returns c = refl
