use native.Mathlib.Omega.{arith}
use Rattle.words.specs.Tests.{if_t, if_f, and_r}
use mathlib.Core.Bool.{not}
use lib.Dec.{eqb}
use mathlib.Core.Path.{sym}
use borrow.Author.Tests.{ltb-true}
use Prim.Native.Nat.{◌<◌}
use Rattle.marks.proofs.moved_up.Goals as goal

pub overflow_sub-result : goal.overflow_sub-result
overflow_sub-result c = let h : c.args.a < c.args.b = ltb-true _ _ (and_r (not (eqb c.args.a 0)) _ c.if-a-b.true) in omega arith

pub returns-then-a-b : goal.returns-then-a-b
returns-then-a-b c = sym (if_t _ _ _ c.if-a-b.true)

pub returns-else-a-b : goal.returns-else-a-b
returns-else-a-b c = sym (if_f _ _ _ c.if-a-b.false)
