-- What a sound page area says of an object's words: n is the number of pages. Assumes nothing.
use Prim.Native.Nat.{ℕ, ◌<◌, ◌≤◌}
use native.Mathlib.Omega.{arith}
use mathlib.Core.Path.{◌≡◌}
use mathlib.Core.Bool.{true}
use mathlib.Core.List.{List}
use borrow.Author.Tests.{lt-ltb}
use Rattle.pages.specs.Geometry.{is_ref_at, object_count}
use Rattle.pages.specs.Objects.{word_of}
use Rattle.pages.specs.Soundness.{area_sound}
use Rattle.page_laws.specs.SoundFacts.{ref_in_range}

-- the first four words are the references
pub reference : (a : List ℕ) (n : ℕ) → area_sound a n ≡ true → (o f : ℕ) → 1 ≤ o → o ≤ object_count n → f < 4 → word_of a o f ≤ object_count n
unfolding is_ref_at
reference a n sound o f low top h = ref_in_range a n o sound low top f (omega arith) (lt-ltb f 4 h)
