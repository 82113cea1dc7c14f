use native.Mathlib.Omega.{arith}
use Prim.Native.Nat.{ℕ, ◌+◌}
use mathlib.Core.Path.{◌≡◌, refl, sym, ap, ◌∙◌}
use mathlib.Core.List.{List, []}
use lib.Seq.{paste-zero}
use lib.ListN.{length, length-set, set, get_or}
use Rattle.pages.specs.Geometry.{slot_count}
use Rattle.page_laws.specs.Runs.{paste_next}
use Rattle.columns.specs.Columns.{columns_of}
use Rattle.column_laws.specs.Grids.{columns_full, columns_at}
use Rattle.page_columns.proofs.laying.put_column.Goals as goal

pub loop-s-init : goal.loop-s-init
loop-s-init c = (omega arith, refl, paste-zero c.args.out.now c.args.b (get_or (columns_of c.args.t) c.args.w []))

pub loop-s-preserved : goal.loop-s-preserved
loop-s-preserved c =
    let a = c.args in
    let l = c.loop-s in
    let column = get_or (columns_of a.t) a.w [] in
    let k : length column ≡ slot_count = (columns_full a.t).words a.w (omega arith) in (
      omega arith,
      simp length-set l.invariant.1,
      ap (λ (v : ℕ). set l.out (a.b + l.s) v) (sym (columns_at a.t a.w l.s (omega arith) (omega arith)))
          ∙ ap (λ (x : List ℕ). set x (a.b + l.s) (get_or column l.s 0)) l.invariant.2 ∙ paste_next a.out.now a.b column l.s (omega arith) (omega arith),
    )

pub returns : goal.returns
returns c = let e : c.loop-s.s ≡ slot_count = omega arith in rw e at c.loop-s.invariant.2
