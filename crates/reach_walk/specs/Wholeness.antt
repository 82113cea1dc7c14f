-- What is answered of one page area, whatever its words are. Assumes nothing.
use Rattle.std.specs.Prelude.{ℕ, ◌≡◌, Bool, true, false, List, length, Ok, Err}
use Rattle.pages.specs.Geometry.{page_words, max_pages}
use Rattle.pages.specs.Objects.{occupied}
use Rattle.areas.specs.Ranges.{whole}
use Rattle.areas.specs.declared.Refusal.TheVariants.{Malformed}
use Rattle.reach.specs.Reaching.{Reached, Whole}
use Rattle.areas.specs.Answers.{Answer}

-- 'a length that gives no whole number in bounds counts as differing': a page area by itself
abbrev pub area_fits : List ℕ → Bool
area_fits a = whole (length a) page_words max_pages

-- something that the root reaches is not occupied
pub record Dangles (a : List ℕ) : Type 0 where
  pub object : ℕ
  pub reached : Reached a object
  pub free : occupied a object ≡ false

-- the answer about page area a: refused where its length does not fit; else 1 where whatever the root reaches is occupied, 0 where not
pub data WholeAnswer (a : List ℕ) : Answer → Type 0 where
  malformed : area_fits a ≡ false → WholeAnswer a (Err Malformed)
  all_occupied : area_fits a ≡ true → Whole a → WholeAnswer a (Ok 1)
  dangling : area_fits a ≡ true → Dangles a → WholeAnswer a (Ok 0)
