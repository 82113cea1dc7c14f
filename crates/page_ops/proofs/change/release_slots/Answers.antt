-- The table that is written back is that of `released_table`. Assumes nothing.
use Prim.Native.Nat.{ℕ, ◌*◌}
use mathlib.Core.Path.{ap, ◌∙◌}
use mathlib.Core.List.{List}
use lib.ListN.{set, length-set}
use Rattle.pages.specs.Geometry.{page_words, slot_count}
use Rattle.pages.specs.Table.{with_rows}
use Rattle.page_rows.specs.TableLaws.{freed_rows}
use Rattle.page_rows.specs.RoundTrip.{released_table}
use Rattle.page_ops.proofs.change.release_slots.Goals as goal

pub shape_of-a : goal.shape_of-a
shape_of-a c = c.put_rows.auto.a ∙ simp length-set

pub returns : goal.returns
returns c = let a = c.args in c.put_rows.ensures ∙ ap (λ (t : List (List ℕ)). with_rows (set a.a.now (page_words * a.p) c.clear_bits.result) a.p t slot_count) (c.freed_rows-t.ensures ∙ ap (λ (t : List (List ℕ)). freed_rows t a.m) c.rows_of.ensures) ∙ released_table a.a.now a.p a.m _ c.requires.1 c.clear_bits.ensures
