-- What a create, a set and a sweep make of an object and its tag, as the collector's machine says it. Assumes nothing.
use Prim.Native.Nat.{ℕ}
use mathlib.Core.Path.{◌≡◌, refl}
use mathlib.Core.Bool.{Bool, true, false, ◌&&◌, cond}
use lib.Dec.{eqb}
use Rattle.words.specs.Tests.{if, by_bool, eqb_swap}
use Rattle.words.specs.Bits.{bit}
use Rattle.pages.specs.Geometry.{page_of, slot_of}
use Rattle.records.specs.Records.{create_of, set_of, sweep_of}
use Rattle.collector.specs.Objects.{blank, fresh, put, born_at, stamp}
use Rattle.machine_view.specs.View.{applied}
use Rattle.book_laws.specs.Seen.{tagged, Seen, acted}

-- a choice between two, seen by its parts
pub picked_object : (c : Bool) (v w : Seen) → (if c v w).object ≡ cond c v.object w.object
picked_object true v w = refl
picked_object false v w = refl

pub picked_tag : (c : Bool) (v w : Seen) → (if c v w).tag ≡ cond c v.tag w.tag
picked_tag true v w = refl
picked_tag false v w = refl

-- an object created, written, freed by line m
abbrev pub created_at : ℕ → Seen
created_at m = record { object = fresh; tag = born_at m }

abbrev pub written_at : ℕ → ℕ → ℕ → Seen → Seen
written_at m f w v = record { object = put v.object f w; tag = stamp v.tag f m }

abbrev pub freed_at : ℕ → Seen
freed_at m = record { object = blank; tag = born_at m }

module _ (m x : ℕ) (v : Seen) where
  pub create_acts : (t o : ℕ) → acted m (create_of t o) x v ≡ if (eqb x o) (created_at m) v
  unfolding applied tagged
  create_acts t o = rw (eqb_swap o x) (by_bool (eqb x o) (λ e. rw e) (λ e. rw e))

  pub set_acts : (t o f a w : ℕ) → acted m (set_of t o f a w) x v ≡ if (eqb x o) (written_at m f w v) v
  unfolding applied tagged
  set_acts t o f a w = rw (eqb_swap o x) (by_bool (eqb x o) (λ e. rw e) (λ e. rw e))

  pub sweep_acts : (p w : ℕ) → acted m (sweep_of p w) x v ≡ if (eqb p (page_of x) && bit w (slot_of x)) (freed_at m) v
  unfolding applied tagged
  sweep_acts p w = by_bool (eqb p (page_of x) && bit w (slot_of x)) (λ e. rw e) (λ e. rw e)
