-- `bench::take_input` meets its contract.
use Rattle.std.proofs.Common.{arith}
use Rattle.bench.specs.Turns.{reached_start, reached_fewer}
use Rattle.bench.proofs.take_input.Goals as goal

pub loop-init : goal.loop-init
loop-init c = reached_start _ _ _ c.requires c.start-place.ensures (omega arith)

pub take_chunk-turn-requires : goal.take_chunk-turn-requires
take_chunk-turn-requires c = reached_fewer _ _ _ c.loop.invariant (omega arith)

pub loop-preserved : goal.loop-preserved
loop-preserved c = c.take_chunk-turn.ensures _ (reached_fewer _ _ _ c.loop.invariant (omega arith))

pub returns-after-loop : goal.returns-after-loop
returns-after-loop c = reached_fewer _ _ _ c.loop.invariant (omega arith)

pub returns-then-not-turn : goal.returns-then-not-turn
returns-then-not-turn c = c.take_chunk-turn.ensures 1 (reached_fewer _ _ _ c.loop.invariant (omega arith))
