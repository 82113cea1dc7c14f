-- The end of a walk: where every object found is followed, whatever is reached is marked, and so is there. Assumes nothing.
use Prim.Native.Nat.{ℕ, ◌-◌, ◌≤◌}
use native.Mathlib.Omega.{arith}
use mathlib.Core.Path.{◌∙◌}
use mathlib.Core.List.{List}
use Rattle.pages.specs.Geometry as geometry
use Rattle.reach.specs.Reaching.{Reached, root, next, Whole, reached_some}
use Rattle.reach_walk.specs.declared.Walk.{Walk}
use Rattle.reach_walk.specs.Walk.{Marked, Queued, Consistent, Entry}
use Rattle.reach_walk.proofs.Following.{DoneTo}

-- an object found stands in the queue by its own number
stands : {E : ℕ → Type 0} {n : ℕ} {w : Walk} → Consistent E n w → (o : ℕ) → 1 ≤ o → Marked w o → Queued w o
stands r o l m = let q = r.queued (o - 1) m in record { place = q.place; below = q.below; here = q.here ∙ (omega arith) }

pub reached_marked : {E : ℕ → Type 0} {a : List ℕ} {n : ℕ} {w : Walk} {o : ℕ} → Consistent E n w → Marked w geometry.root → DoneTo a w w.tail → Reached a o → Marked w o
reached_marked r first d root = first
reached_marked r first d (next {o} {x} f p h) =
    let q = stands r o (reached_some p) (reached_marked r first d p) in
    d q.place q.below f h.word x (rw q.here h)

pub ends_whole : (a : List ℕ) (n : ℕ) (w : Walk) → Consistent (Entry a) n w → Marked w geometry.root → DoneTo a w w.tail → Whole a
ends_whole a n w r first d o p =
    let q = stands r o (reached_some p) (reached_marked r first d p) in
    rw q.here at (r.entry q.place q.below).there
