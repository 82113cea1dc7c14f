use mathlib.Core.Bool.{Bool}
use native.Mathlib.Omega.{arith}
use Prim.Native.Nat.{ℕ}
use mathlib.Core.Path.{ap, ◌∙◌}
use mathlib.Core.List.{List, []}
use lib.ListN.{get_or}
use Rattle.words.specs.Tests.{if}
use Rattle.words.specs.Bits.{bit}
use Rattle.page_rows.specs.TableLaws.{zero_row, freed_row, freed_rows, tab_none, tab_next, tab_rest, tab_end}
use Rattle.page_rows.proofs.rows.freed_rows.Goals as goal

pub loop-s-init : goal.loop-s-init
loop-s-init c = (omega arith, tab_none _ _)

pub loop-s-preserved : goal.loop-s-preserved
loop-s-preserved c =
    let t = c.args.t in
    let l = c.loop-s in
    let kept : List ℕ → List ℕ = λ r. if (bit c.args.m l.s) zero_row r in (
      omega arith,
      tab_next (freed_row t c.args.m) l.s t [] _ _ l.invariant.1
          (c.kept_row.ensures ∙ ap (λ (b : Bool). if b zero_row (get_or l.row-items l.s [])) c.has_bit.ensures ∙ ap kept (tab_rest _ l.s t [] _ l.invariant.1 (omega arith)))
          (omega arith),
    )

pub returns : goal.returns
unfolding freed_rows
returns c = tab_end _ _ _ _ _ c.loop-s.invariant.1 (omega arith) (omega arith)
