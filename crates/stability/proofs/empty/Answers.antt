use mathlib.Core.Path.{refl, ◌∙◌}
use Rattle.stability.proofs.empty.Goals as goal

pub returns : goal.returns
returns c = (refl, c.clear_words.ensures ∙ rw c.undoing_at.ensures)
