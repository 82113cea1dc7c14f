-- Invariant: the words passed are the queue's, the rest as at entry. Assumes nothing.
use Prim.Native.Nat.{◌-◌, ◌≤◌}
use mathlib.Core.Path.{◌≡◌}
use lib.ListN.{length, get_or}
use Rattle.words.specs.Spans.{fill}
use Rattle.chain_trace.proofs.trace.show.Given as goal

abbrev pub invariant-loop-i : goal.invariant-loop-i
invariant-loop-i l = (l.i ≤ l.d) × (length l.buffer ≡ length l.initial.buffer) × (l.buffer ≡ fill (λ k. get_or l.queue (l.d - 1 - k) 0) l.initial.buffer 0 l.i)
