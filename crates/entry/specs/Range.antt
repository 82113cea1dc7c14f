-- Refusal 1 besides the lengths, of the lists that it reads. Assumes nothing.
use Rattle.std.specs.Prelude.{ℕ, ◌≡◌, refl, Bool, true, false, List, [], get_or}
use Rattle.pages.specs.Soundness.{area_sound}
use Rattle.records.specs.Soundness.{records_sound}
use Rattle.areas.specs.Areas.{areas}
use Rattle.areas.specs.Ranges.{counts_in_range, work_in_range, in_range}

-- the stored pages are not read
abbrev pub range_of : List ℕ → List ℕ → List ℕ → List ℕ → List ℕ → ℕ → ℕ → Bool
range_of c r g k w n l = in_range (areas [] c r g k w) n l

pub range_of_law : (s c r g k w : List ℕ) (n l : ℕ) → range_of c r g k w n l ≡ in_range (areas s c r g k w) n l
unfolding in_range
range_of_law s c r g k w n l = refl

-- by the tests, in their order
module _ (c r g k w : List ℕ) (n l : ℕ) where
  pub range_stops : counts_in_range k l ≡ false → false ≡ range_of c r g k w n l
  unfolding in_range
  range_stops e = rw e

  module _ (counts : counts_in_range k l ≡ true) where
    pub work_stops : work_in_range w n l ≡ false → false ≡ range_of c r g k w n l
    unfolding in_range
    work_stops e = rw (counts, e)

    module _ (work : work_in_range w n l ≡ true) where
      pub received_stops : area_sound r n ≡ false → false ≡ range_of c r g k w n l
      unfolding in_range
      received_stops e = rw (counts, work, e)

      pub copies_stop : area_sound r n ≡ true → area_sound c n ≡ false → false ≡ range_of c r g k w n l
      unfolding in_range
      copies_stop h e = rw (counts, work, h, e)

      pub range_goes : {e : Bool} → area_sound r n ≡ true → area_sound c n ≡ true → e ≡ records_sound n g (get_or k 0 0) → e ≡ range_of c r g k w n l
      unfolding in_range
      range_goes h i e = rw (counts, work, h, i) e
