use mathlib.Core.Path.{sym}
use native.Mathlib.Omega.{arith}
use borrow.Author.Tests.{eq-eqb, ne_eqb}
use Rattle.words.specs.Tests.{if_t, if_f}
use Rattle.record_ops.proofs.naming.page_named.Goals as goal

pub returns-then-r-eq-SWEEP : goal.returns-then-r-eq-SWEEP
returns-then-r-eq-SWEEP c = sym (if_t _ _ _ (eq-eqb _ _ c.if-r-eq-SWEEP.true))

pub overflow_sub-result : goal.overflow_sub-result
overflow_sub-result c = let h = c.requires (ne_eqb _ _ c.if-r-eq-SWEEP.false) in omega arith

pub returns : goal.returns
returns c = sym (if_f _ _ _ (ne_eqb _ _ c.if-r-eq-SWEEP.false))
