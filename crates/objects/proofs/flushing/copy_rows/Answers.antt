use mathlib.Core.Path.{ap, ◌∙◌}
use Prim.Native.Nat.{ℕ, ◌*◌}
use mathlib.Core.List.{List}
use lib.ListN.{get_or, set, length-set}
use Rattle.pages.specs.Table.{with_rows}
use Rattle.objects.specs.Flushing.{page_by_rows}
use Rattle.objects.proofs.flushing.copy_rows.Goals as goal

pub shape_of-copies : goal.shape_of-copies
shape_of-copies c = c.put_rows.auto.a ∙ simp length-set

pub returns : goal.returns
returns c = let a = c.args in c.put_rows.ensures ∙ ap (λ (t : List (List ℕ)). with_rows (set a.copies.now (129 * a.p) (get_or a.received.now (129 * a.p) 0)) a.p t 16) c.rows_of.ensures ∙ page_by_rows _ _ _ c.requires.0 c.requires.1
