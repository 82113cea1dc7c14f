use native.Mathlib.Omega.{arith}
use native.Mathlib.Nat.{add-zero}
use Prim.Native.Nat.{◌+◌, ◌*◌}
use mathlib.Core.Path.{refl, ◌∙◌}
use Rattle.pages.specs.Geometry.{head_words, slot_count, slot_words}
use Rattle.column_laws.specs.Grids.{columns_full}
use Rattle.page_columns.specs.Laying.{laid_none, laid_next, laid_all}
use Rattle.page_columns.proofs.laying.put_columns.Goals as goal

pub loop-w-init : goal.loop-w-init
loop-w-init c = (omega arith, refl, laid_none head_words slot_words slot_count _ (columns_full _) _)

pub loop-w-preserved : goal.loop-w-preserved
loop-w-preserved c =
    let l = c.loop-w in
    let a = c.args in
    let p = c.put_column in (
      omega arith,
      p.auto.out ∙ l.invariant.1,
      p.ensures ∙ laid_next head_words slot_words slot_count _ (columns_full a.t) a.out.now _ l.w _ l.invariant.2 (c.column_at.ensures ∙ add-zero (head_words + slot_count * l.w)) (omega arith) (omega arith),
    )

pub returns : goal.returns
returns c = laid_all head_words slot_words slot_count _ (columns_full c.args.t) _ _ _ c.loop-w.invariant.2 (omega arith) c.requires
