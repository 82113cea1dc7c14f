-- What the tests of ranges say in numbers, and that each call's tests look at some of the areas only. Assumes nothing.
use Rattle.std.specs.Prelude.{ℕ, ◌<◌, ◌≤◌, ◌≡◌, true, ◌&&◌, List, []}
use Rattle.std.proofs.Math.Path.{refl}
use Rattle.std.proofs.Common.{ltb-true}
use Rattle.words.specs.Tests.{and_split}
use Rattle.pages.specs.Geometry.{object_count, is_object}
use Rattle.records.specs.Records.{txn_count}
use Rattle.areas.specs.Areas.{areas}
use Rattle.areas.specs.Tables.{is_txn}
use Rattle.calls.specs.Room.{room_beyond}
use Rattle.calls.specs.Objects.{read_tests, create_tests, set_tests, flush_tests}
use Rattle.acceptance.specs.Objects.{object_facts}

pub object_range : (n t o : ℕ) → is_txn t && is_object n o ≡ true → (t < txn_count) × (1 ≤ o) × (o ≤ object_count n)
object_range n t o h = let p = and_split (is_txn t) (is_object n o) h in let b = object_facts n o p.1 in (ltb-true _ _ p.0, b.low, b.top)

-- the areas that the tests look at
module _ (s c r g k w : List ℕ) (n t : ℕ) where
  pub read_looks : (o : ℕ) → read_tests (areas [] [] [] [] [] w) n t o ≡ read_tests (areas s c r g k w) n t o
  unfolding read_tests
  read_looks o = refl

  pub create_looks : (o : ℕ) → create_tests (areas [] [] r g k w) n t o ≡ create_tests (areas s c r g k w) n t o
  unfolding create_tests room_beyond
  create_looks o = refl

  pub set_looks : (o f v : ℕ) → set_tests (areas [] [] r g k w) n t o f v ≡ set_tests (areas s c r g k w) n t o f v
  unfolding set_tests room_beyond
  set_looks o f v = refl

  pub flush_looks : (p : ℕ) (image : List ℕ) → flush_tests (areas [] [] r [] [] w) n t p image ≡ flush_tests (areas s c r g k w) n t p image
  unfolding flush_tests
  flush_looks p image = refl
