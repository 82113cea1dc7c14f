-- `bench_serving::serve_bytes` meets its contract. Invariant: what the bytes left give, after what is held, is what they all give.
use Rattle.std.proofs.Common.{◌≡◌, ◌-◌, length, drop}
use Rattle.areas.specs.Areas.{areas}
use Rattle.bench_serving.specs.Held.{held, Fits}
use Rattle.bench_serving.proofs.Filled.{onward}
use Rattle.bench_serving.proofs.serve_bytes.Given as goal

abbrev pub invariant-loop-b : goal.invariant-loop-b
invariant-loop-b l =
    Fits l.at l.out (length l.bytes - l.b-index) × (onward (held (areas l.stored l.copies l.received l.log l.counts l.work) l.at l.out) (drop l.b-index l.bytes) ≡ onward (held (areas l.initial.stored l.initial.copies l.initial.received l.initial.log l.initial.counts l.initial.work) l.initial.at l.initial.out) l.bytes)
