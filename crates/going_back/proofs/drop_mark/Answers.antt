use native.Mathlib.Omega.{arith}
use Rattle.words.specs.Tests.{if_t, if_f}
use lib.ListN.{length-set}
use mathlib.Core.Path.{sym}
use borrow.Author.Tests.{lt-ltb, le-ltb}
use Rattle.going_back.proofs.drop_mark.Goals as goal

pub bounds-work-i-then-a-work : goal.bounds-work-i-then-a-work
bounds-work-i-then-a-work c = simp length-set (omega arith)

pub returns-then-a-work : goal.returns-then-a-work
returns-then-a-work c = rw (c.marked_at.ensures, c.order_at-i.ensures) (sym (if_t _ _ _ (lt-ltb _ _ (rw c.order_at-i.ensures at c.if-a-work.true))))

pub returns-else-a-work : goal.returns-else-a-work
returns-else-a-work c = sym (if_f _ _ _ (le-ltb _ _ (rw c.order_at-i.ensures at c.if-a-work.false)))
