use Prim.Native.Nat.{◌-◌}
use mathlib.Core.Path.{refl}
use native.Mathlib.Omega.{arith}
use Rattle.bench_rights.specs.Giving.{given_none, given_next, given_end}
use borrow.Author.Rules.{rules}
use Rattle.bench_rights.proofs.give_all.Goals as goal

pub loop-p-init : goal.loop-p-init
loop-p-init c = (omega arith, refl, given_none _)

pub loop-p-preserved : goal.loop-p-preserved
loop-p-preserved c = (omega arith, search rules, given_next _ _ _ _ _ c.loop-p.invariant.2 c.grant.ensures)

pub returns : goal.returns
returns c = given_end _ _ _ (omega arith) (omega arith) c.loop-p.invariant.2
