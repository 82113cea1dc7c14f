-- Document 02, L5, as statements, 'for all words': p is any list of a page's length. Assumes nothing.
use Rattle.std.specs.Prelude.{ℕ, ◌<◌, ◌≡◌, true, false, List, length, get_or, Ok, Err}
use Rattle.pages.specs.Geometry.{slot_count, slot_words, page_words, head_words}
use Rattle.pages.specs.Objects.{slot_word}
use Rattle.areas.specs.declared.Refusal.TheVariants.{Malformed}
use Rattle.areas.specs.Answers.{accepted}
use Rattle.columns.specs.Columns.{to_columns, from_columns, column_at}
use Rattle.columns.specs.ColumnCalls.{arrange_answer, arranged}

-- q is p by columns, and every word of it is settled: 'row w being word w of slots 0 to 15 in order, what precedes the rows staying first'
pub record ByColumns (p q : List ℕ) : Type 0 where
  pub words : length q ≡ page_words
  pub head : (i : ℕ) → i < head_words → get_or q i 0 ≡ get_or p i 0
  pub row : (w s : ℕ) → w < slot_words → s < slot_count → get_or q (column_at w s) 0 ≡ slot_word p 0 s w

abbrev pub Turned : Type 0
Turned = (p : List ℕ) → length p ≡ page_words → ByColumns p (to_columns p)

-- 'and the inverse restores it': p is what the inverse makes of it, by columns
abbrev pub TurnedBack : Type 0
TurnedBack = (p : List ℕ) → length p ≡ page_words → ByColumns (from_columns p) p

-- no other list is p by columns
abbrev pub OneArrangement : Type 0
OneArrangement = (p q : List ℕ) → length p ≡ page_words → ByColumns p q → q ≡ to_columns p

-- 'Either order gives the page back, for all words.'
pub record EitherOrder (p : List ℕ) : Type 0 where
  pub restored : from_columns (to_columns p) ≡ p
  pub arranged_again : to_columns (from_columns p) ≡ p

abbrev pub GivesBack : Type 0
GivesBack = (p : List ℕ) → length p ≡ page_words → EitherOrder p

-- 'fills a second lent page; a wrong length is 1': refused exactly where a length is wrong, and then nothing changes
pub record Answers (page out : List ℕ) : Type 0 where
  pub accepts : length page ≡ page_words → length out ≡ page_words → arrange_answer page out ≡ Ok 0
  pub asked : accepted (arrange_answer page out) ≡ true → (length page ≡ page_words) × (length out ≡ page_words)
  pub refuses_with : accepted (arrange_answer page out) ≡ false → arrange_answer page out ≡ Err Malformed
  pub keeps : (f : List ℕ → List ℕ) → accepted (arrange_answer page out) ≡ false → arranged f page out ≡ out

abbrev pub Answered : Type 0
Answered = (page out : List ℕ) → Answers page out

-- 'Either order' of the calls: what one made of a page, the other makes of it again, into a third page
abbrev pub CallsGiveBack : Type 0
CallsGiveBack = (page out back : List ℕ) → accepted (arrange_answer page out) ≡ true → length back ≡ page_words
    → (arranged from_columns (arranged to_columns page out) back ≡ page) × (arranged to_columns (arranged from_columns page out) back ≡ page)
