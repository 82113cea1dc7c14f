-- Invariant: the walk has grown, and the words passed are followed. Assumes nothing.
use Rattle.reach_walk.specs.Walk.{Consistent, Entry, Grown, FollowedTo}
use Rattle.reach_walk.proofs.Walk.follow.Given as goal

abbrev pub invariant-loop-f : goal.invariant-loop-f
invariant-loop-f l = Consistent (Entry l.pages) l.n l.self × Grown l.initial.self l.self × FollowedTo l.pages l.self l.o l.f
