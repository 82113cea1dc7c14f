use native.Mathlib.Omega.{arith}
use Rattle.undo_walk.specs.Taking.{noted_create, noted_set}
use lib.ListN.{length-set}
use mathlib.Core.Path.{◌∙◌}
use borrow.Author.Tests.{eq-eqb, ne_eqb}
use Rattle.undo_walk.proofs.note_back.Goals as goal

pub lose-requires : goal.lose-requires
lose-requires c = simp length-set (omega arith)

pub shape_of-work-then-r-eq-CREATE : goal.shape_of-work-then-r-eq-CREATE
shape_of-work-then-r-eq-CREATE c = c.lose.auto.w ∙ simp length-set c.gain.auto.w

pub returns-then-r-eq-CREATE : goal.returns-then-r-eq-CREATE
returns-then-r-eq-CREATE c = noted_create _ _ _ _ _ c.unflushed_at.ensures c.undoing_at.ensures c.gain.ensures c.known_at.ensures c.lose.ensures (eq-eqb _ _ c.if-r-eq-CREATE.true)

pub returns-else-r-eq-CREATE : goal.returns-else-r-eq-CREATE
returns-else-r-eq-CREATE c = noted_set _ _ _ _ _ c.unflushed_at.ensures c.undoing_at.ensures c.gain.ensures (ne_eqb _ _ c.if-r-eq-CREATE.false)
