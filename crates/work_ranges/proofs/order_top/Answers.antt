use mathlib.Core.Path.{sym}
use borrow.Author.Tests.{lt-ltb, le-ltb}
use Rattle.words.specs.Tests.{if_t, if_f}
use Rattle.work_ranges.proofs.order_top.Goals as goal

pub returns-then-l-gt1 : goal.returns-then-l-gt1
returns-then-l-gt1 c = sym (if_t _ _ _ (lt-ltb 1 _ c.if-l-gt1.true))

pub returns-else-l-gt1 : goal.returns-else-l-gt1
returns-else-l-gt1 c = sym (if_f _ _ _ (le-ltb 1 _ c.if-l-gt1.false))
