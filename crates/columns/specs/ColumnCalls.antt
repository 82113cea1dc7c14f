-- Document 02, L5: the two calls that arrange a page. 'It needs no store and fills a second lent page; a wrong length is 1.' They are no
-- calls on the store, and so not among those of demand 3. Assumes nothing.
use Rattle.std.specs.Prelude.{ℕ, Bool, ◌&&◌, List, length, eqb, Ok, Err}
use Rattle.words.specs.Tests.{if}
use Rattle.pages.specs.Geometry.{page_words}
use Rattle.areas.specs.declared.Refusal.TheVariants.{Malformed}
use Rattle.areas.specs.Answers.{Answer}

-- both are pages
abbrev pub two_pages : List ℕ → List ℕ → Bool
two_pages page out = eqb (length page) page_words && eqb (length out) page_words

-- 'a wrong length is 1'; the value is document 01's 'else 0'
unfoldable pub arrange_answer : List ℕ → List ℕ → Answer
arrange_answer page out = if (two_pages page out) (Ok 0) (Err Malformed)

-- 'fills a second lent page': what out holds after the call, where f is the arrangement; refused, it keeps its words
unfoldable pub arranged : (List ℕ → List ℕ) → List ℕ → List ℕ → List ℕ
arranged f page out = if (two_pages page out) (f page) out
