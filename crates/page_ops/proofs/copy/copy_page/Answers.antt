use borrow.Author.Rules.{rules}
use native.Mathlib.Omega.{arith}
use Prim.Native.Nat.{◌+◌}
use lib.ListN.{length-set, get_or}
use Rattle.pages.specs.Geometry.{page_words, page_at}
use Rattle.page_rows.specs.Parts.{copied_part}
use Rattle.page_ops.specs.Filling.{filled_next, filled_part}
use Rattle.page_ops.proofs.copy.copy_page.Goals as goal

pub loop-i-init : goal.loop-i-init
loop-i-init c = (search rules, λ k l. absurd (omega arith))

pub loop-i-preserved : goal.loop-i-preserved
loop-i-preserved c = (simp length-set c.loop-i.invariant.0, filled_next c.loop-i.word-items (λ k. get_or c.args.from.now (page_at c.args.p + k) 0) page_words c.loop-i.i c.loop-i.invariant.0 (omega arith) c.loop-i.invariant.1)

pub returns : goal.returns
returns c = let i = c.loop-i.invariant in copied_part _ _ _ _ _ _ (omega arith) (filled_part _ _ _ page_words _ _ i.0 (omega arith) c.requires.0 (omega arith) i.1)
