-- Invariant: x stands at k, and nothing but the queue has moved. Assumes nothing.
use Prim.Native.Nat.{◌+◌, ◌≤◌}
use mathlib.Core.Path.{◌≡◌}
use Rattle.chain_search.proofs.Inserting.{Moved}
use Rattle.chain_search.proofs.Search.insert.Given as goal

abbrev pub invariant-loop-k : goal.invariant-loop-k
invariant-loop-k l = (l.first ≤ l.k) × (l.k ≤ l.fn.self.tail) × Moved l.fn.self.queue l.fn.self.tail l.x l.k l.self.queue × (l.self.tail ≡ l.fn.self.tail + 1) × (l.self.from ≡ l.fn.self.from)
