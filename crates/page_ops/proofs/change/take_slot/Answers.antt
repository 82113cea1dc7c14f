-- The map's new word is what `with_bit` ensures. Assumes nothing.
use Prim.Native.Nat.{ℕ, ◌*◌}
use mathlib.Core.Path.{ap, ◌∙◌}
use lib.ListN.{set, length-set}
use Rattle.pages.specs.Geometry.{page_words}
use Rattle.pages.specs.Objects.{cleared, taken_slot}
use Rattle.page_ops.proofs.change.take_slot.Goals as goal

pub shape_of-a : goal.shape_of-a
shape_of-a c = c.clear_slot.auto.a ∙ simp length-set

pub returns : goal.returns
unfolding taken_slot
returns c = let a = c.args in c.clear_slot.ensures ∙ ap (λ (v : ℕ). cleared (set a.a.now (page_words * a.p) v) a.p a.s) c.with_bit.ensures
