-- Invariant: the words passed are those of the other page. Assumes nothing.
use Prim.Native.Nat.{◌+◌}
use mathlib.Core.Path.{◌≡◌}
use lib.ListN.{length, get_or}
use Rattle.pages.specs.Geometry.{page_words, page_at}
use Rattle.page_ops.specs.Filling.{FilledTo}
use Rattle.page_ops.proofs.copy.copy_page.Given as goal

abbrev pub invariant-loop-i : goal.invariant-loop-i
invariant-loop-i l = (length l.word-items ≡ page_words) × FilledTo l.word-items (λ k. get_or l.from (page_at l.p + k) 0) l.i
