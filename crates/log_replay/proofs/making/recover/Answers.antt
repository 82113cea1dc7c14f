use mathlib.Core.Path.{ap, ◌∙◌}
use mathlib.Core.List.{List}
use Prim.Native.Nat.{ℕ}
use Rattle.words.specs.Tests.{all}
use Rattle.pages.specs.Soundness.{free_zero}
use Rattle.log_replay.specs.Rebuilding.{sound_copied, sound_redone, rebuilt}
use Rattle.log_replay.proofs.making.recover.Goals as goal

pub redo-requires : goal.redo-requires
redo-requires c = let h = c.requires in (h.2, sound_copied _ _ _ _ h.1 h.3 _ c.copy_area.ensures)

pub undo-requires : goal.undo-requires
undo-requires c = let h = c.requires in (h.2, sound_redone _ _ _ _ h.1 h.3 _ _ c.copy_area.ensures c.redo.ensures)

pub returns : goal.returns
returns c = let h = c.requires in let e = rebuilt _ _ _ _ _ _ _ h.4 c.copy_area.ensures c.redo.ensures c.undo.ensures in (c.pages_free_zero.ensures ∙ ap (λ (x : List ℕ). all (free_zero x) c.args.n) e, e)
