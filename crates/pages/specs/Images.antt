-- Document 02, L6: a page that a tablet sends, beside the page. Assumes nothing.
use Rattle.std.specs.Prelude.{ℕ, Bool, not, ◌||◌, List}
use Rattle.words.specs.Tests.{all}
use Rattle.words.specs.Spans.{same}
use Rattle.pages.specs.Geometry.{slot_count, slot_words, slot_at}
use Rattle.pages.specs.Objects.{taken}

-- slot s of an image has what slot s of page p of area a has: its eight words
abbrev pub slot_agrees : List ℕ → List ℕ → ℕ → ℕ → Bool
slot_agrees image a p s = same image (slot_at 0 s 0) a (slot_at p s 0) slot_words

-- 'the flush compares only the slots occupied in the received page; the map and the rest of the image do not count': this in place of
-- document 01's 'the image must equal the received page'
unfoldable pub agrees : List ℕ → List ℕ → ℕ → Bool
agrees image a p = all (λ s. not (taken a p s) || slot_agrees image a p s) slot_count
