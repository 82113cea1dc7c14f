-- Some input leads here, and the lines of the chunks that may still be read have numbers.
use Rattle.std.proofs.Common.{◌*◌, ◌-◌, ◌^◌}
use Rattle.areas.specs.Areas.{areas}
use Rattle.bench_serving.specs.Held.{state_of}
use Rattle.bench.specs.Turns.{chunk, Reached}
use Rattle.bench.proofs.take_input.Given as goal

abbrev pub invariant-loop : goal.invariant-loop
invariant-loop l = Reached (state_of (areas l.stored l.copies l.received l.log l.counts l.work) l.turn.place) (2 ^ 64 - 2 - chunk * l.counter)
