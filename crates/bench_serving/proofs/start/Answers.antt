-- `bench_serving::start` meets its contract.
use Rattle.bench_serving.proofs.start.Goals as goal

pub returns : goal.returns
returns c = cc
