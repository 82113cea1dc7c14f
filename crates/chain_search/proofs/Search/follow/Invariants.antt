-- Invariant: the words before f are followed. Assumes nothing.
use Prim.Native.Nat.{◌≤◌}
use Rattle.pages.specs.Geometry.{slot_words}
use Rattle.chain_search.specs.Following.{Taking}
use Rattle.chain_search.proofs.Search.follow.Given as goal

abbrev pub invariant-loop-f : goal.invariant-loop-f
invariant-loop-f l = (l.f ≤ slot_words) × Taking l.copies l.n l.head l.first l.u l.f l.self.from l.self.queue l.self.tail
