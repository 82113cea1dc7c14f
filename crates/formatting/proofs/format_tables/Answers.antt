use mathlib.Core.Path.{ap}
use mathlib.Core.List.{List}
use Prim.Native.Nat.{ℕ}
use lib.ListN.{set}
use Rattle.areas.specs.Layout.{reopening_at, finished}
use Rattle.formatting.proofs.format_tables.Goals as goal

pub returns : goal.returns
returns c = ap (λ (l : List ℕ). set l reopening_at finished) c.clear.ensures
