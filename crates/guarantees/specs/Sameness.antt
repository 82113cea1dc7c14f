-- Objects and pages of two page areas that are the same. Assumes nothing.
use Rattle.std.specs.Prelude.{ℕ, ◌≤◌, ◌<◌, ◌≡◌, List}
use Rattle.pages.specs.Geometry.{page_of, slot_words}
use Rattle.pages.specs.Objects.{occupied, word_of}

-- object x: both areas have it or neither, and with the same words
pub record SameObject (x : ℕ) (a b : List ℕ) : Type 0 where
  pub slot : occupied a x ≡ occupied b x
  pub words : (f : ℕ) → f < slot_words → word_of a x f ≡ word_of b x f

-- page p: the same objects are there, with the same words
abbrev pub SamePage : ℕ → List ℕ → List ℕ → Type 0
SamePage p a b = (x : ℕ) → 1 ≤ x → page_of x ≡ p → SameObject x a b
