use mathlib.Core.Path.{refl, ap}
use mathlib.Core.List.{List}
use Prim.Native.Nat.{ℕ}
use lib.ListN.{set}
use Rattle.areas.specs.Layout.{reopening_at, running}
use Rattle.log_replay.proofs.making.restart.Goals as goal

pub returns : goal.returns
returns c = (refl, ap (λ (l : List ℕ). set l reopening_at running) c.clear.ensures)
