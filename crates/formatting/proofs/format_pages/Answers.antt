use mathlib.Core.Path.{ap, ◌∙◌}
use mathlib.Core.List.{List}
use Prim.Native.Nat.{ℕ}
use Rattle.pages.specs.Geometry.{root}
use Rattle.pages.specs.Objects.{occupy}
use Rattle.formatting.specs.Formats.{formatted_area}
use Rattle.formatting.proofs.format_pages.Goals as goal

pub returns : goal.returns
unfolding formatted_area
returns c = c.occupy.ensures ∙ ap (λ (l : List ℕ). occupy l root) c.clear.ensures
