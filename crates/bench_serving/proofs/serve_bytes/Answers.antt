use Rattle.std.proofs.Common.{arith, refl}
use Rattle.bench_serving.proofs.Filled.{bytes_end, bytes_more, more_fits}
use Rattle.bench_serving.proofs.serve_bytes.Goals as goal

pub loop-b-init : goal.loop-b-init
loop-b-init c = (record { room = omega arith; numbers = omega arith }, refl)

pub serve_byte-at-requires : goal.serve_byte-at-requires
serve_byte-at-requires c = record { room = omega arith; numbers = omega arith }

pub loop-b-preserved : goal.loop-b-preserved
loop-b-preserved c = (
  more_fits _ _ _ c.args.bytes.now c.loop-b.b-index _ c.loop-b.invariant.1 (omega arith) _ c.serve_byte-at.ensures c.loop-b.invariant.0,
  bytes_more _ _ _ c.args.bytes.now c.loop-b.b-index _ c.loop-b.invariant.1 (omega arith) _ c.serve_byte-at.ensures,
)

pub returns : goal.returns
returns c = bytes_end _ _ _ c.args.bytes.now c.loop-b.b-index _ c.loop-b.invariant.1 (omega arith)
