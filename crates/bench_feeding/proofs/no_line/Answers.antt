-- `bench_feeding::no_line` meets its contract: by computation.
use mathlib.Core.Path.{refl}
use Rattle.bench_feeding.specs.Reading.{no_line}
use Rattle.bench_feeding.proofs.no_line.Goals as goal

pub returns : goal.returns
unfolding no_line
returns c = refl
