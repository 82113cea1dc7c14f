use Prim.Native.Nat.{◌-◌}
use Rattle.grey_search.specs.Greys.{grey_next, grey_found, grey_end}
use mathlib.Core.Path.{refl}
use native.Mathlib.Omega.{arith}
use borrow.Author.Rules.{rules}
use Rattle.grey_search.proofs.lowest_grey.Goals as goal

pub loop-k-init : goal.loop-k-init
loop-k-init c = (omega arith, refl, c.grey_page-k.ensures.1)

pub returns-then-work-colour_at-eq-GREY : goal.returns-then-work-colour_at-eq-GREY
returns-then-work-colour_at-eq-GREY c = grey_found _ _ _ _ c.loop-k.invariant.2 (omega arith) c.colour_at.ensures c.if-work-colour_at-eq-GREY.true

pub loop-k-preserved : goal.loop-k-preserved
loop-k-preserved c = (search rules, search rules, grey_next _ _ _ _ c.loop-k.invariant.2 c.colour_at.ensures c.if-work-colour_at-eq-GREY.false)

pub returns : goal.returns
returns c = grey_end _ _ _ c.loop-k.invariant.2 (omega arith)
