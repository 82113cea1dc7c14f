use Prim.Native.Nat.{ℕ}
use mathlib.Core.Path.{◌∙◌, ap}
use Rattle.words.specs.Spans.{fill}
use Rattle.pages.specs.Geometry.{slot_words}
use Rattle.pages.specs.Objects.{cleared}
use Rattle.page_ops.proofs.change.clear_slot.Goals as goal

pub returns : goal.returns
unfolding cleared
returns c = c.clear_words.ensures ∙ ap (λ (i : ℕ). fill (λ k. 0) c.args.a.now i slot_words) c.slot_at.ensures
