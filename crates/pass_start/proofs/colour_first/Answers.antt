use Prim.Native.Nat.{◌-◌}
use Rattle.pass_start.specs.Starting.{first_colours, first_none, first_next}
use mathlib.Core.Path.{refl, ap, ◌∙◌}
use native.Mathlib.Omega.{arith}
use borrow.Author.Rules.{rules}
use Rattle.pass_start.proofs.colour_first.Goals as goal

pub loop-k-init : goal.loop-k-init
loop-k-init c = (omega arith, refl, refl, first_none _ _)

pub loop-k-preserved : goal.loop-k-preserved
loop-k-preserved c = (search rules, search rules, search rules, first_next _ _ _ _ _ _ c.loop-k.invariant.3 (omega arith) c.first_colour.ensures c.colour_at.ensures)

pub returns : goal.returns
returns c = c.loop-k.invariant.3 ∙ ap (first_colours _ _) (omega arith)
