-- Invariant: the words passed are the page's, the rest still zero.
use Rattle.std.proofs.Common.{◌≡◌}
use Rattle.bench_images.specs.Sent.{sent_to}
use Rattle.bench_images.proofs.page_sent.Given as goal

abbrev pub invariant-loop-i : goal.invariant-loop-i
invariant-loop-i l = l.word-items ≡ sent_to l.received l.p l.i
