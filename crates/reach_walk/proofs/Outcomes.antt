-- What a step of the walk came to. Assumes nothing.
use Prim.Native.Nat.{ℕ}
use mathlib.Core.Path.{◌≡◌, refl}
use mathlib.Core.Bool.{false}
use mathlib.Core.List.{List}
use Rattle.std.specs.Prelude.{Option, Some, None, is_some}
use Rattle.words.specs.Tests.{clash}
use Rattle.reach_walk.specs.Wholeness.{Dangles}
use Rattle.reach_walk.specs.declared.Walk.{Walk}
use Rattle.reach_walk.specs.Walk.{Outcome}

-- where the walk ends
pub went_out : (a : List ℕ) (n : ℕ) (w v : Walk) (G : Walk → Type 0) (r : Option (Unit {0})) → is_some r ≡ false → Outcome a n w v G r → Dangles a
went_out a n w v G (Some u) e p = clash refl e
went_out a n w v G None e p = p
