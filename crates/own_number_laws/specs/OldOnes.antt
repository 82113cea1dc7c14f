-- Document 02, L8, as statements of every record and page: 'Ones already stored stay, are read, marked and reopened .. Undoing may put an
-- old one back.' n is the number of pages. Assumes nothing.
use Rattle.std.specs.Prelude.{ℕ, ◌*◌, ◌<◌, ◌≡◌, true, List, length}
use Rattle.pages.specs.Geometry.{slot_words, page_words, is_object}
use Rattle.pages.specs.Objects.{occupied, written}
use Rattle.pages.specs.Soundness.{area_sound}
use Rattle.records.specs.Records.{set_of}
use Rattle.records.specs.Soundness.{record_sound}

-- a set's record is as sound with its object's number as with 0, written or overwritten
pub record OldRecordsSound : Type 0 where
  pub new : (n t o f x : ℕ) → record_sound n (set_of t o f x o) ≡ record_sound n (set_of t o f x 0)
  pub old : (n t o f x : ℕ) → record_sound n (set_of t o f o x) ≡ record_sound n (set_of t o f 0 x)

-- and so is a page area whose object has its own number in a word
abbrev pub OldPagesSound : Type 0
OldPagesSound = (n : ℕ) (a : List ℕ) → length a ≡ page_words * n → (o f : ℕ) → is_object n o ≡ true → f < slot_words → occupied a o ≡ true
    → area_sound (written a o f o) n ≡ area_sound (written a o f 0) n
