use mathlib.Core.Path.{sym}
use borrow.Author.Tests.{lt-ltb, le-ltb}
use Rattle.words.specs.Tests.{if_t, if_f}
use Rattle.work_ranges.proofs.undoing_top.Goals as goal

pub returns-then-l-gt3 : goal.returns-then-l-gt3
returns-then-l-gt3 c = sym (if_t _ _ _ (lt-ltb 3 _ c.if-l-gt3.true))

pub returns-else-l-gt3 : goal.returns-else-l-gt3
returns-else-l-gt3 c = sym (if_f _ _ _ (le-ltb 3 _ c.if-l-gt3.false))
