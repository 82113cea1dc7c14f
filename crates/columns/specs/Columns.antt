-- Document 02, L5: a page by columns. 'Either order gives the page back, for all words': nothing of a page is tested. Assumes nothing.
use Rattle.std.specs.Prelude.{ℕ, ◌+◌, ◌*◌, List, [], ◌∷◌, ◌++◌, get_or, take}
use Rattle.pages.specs.Geometry.{slot_count, slot_words, head_words}
use Rattle.pages.specs.Table.{tabulate, rows_of}

-- n rows of m words, word j of row i being f i j
unfoldable pub grid : (ℕ → ℕ → ℕ) → ℕ → ℕ → List (List ℕ)
grid f n m = tabulate (λ i. tabulate (f i) m) n

-- the words of a table's rows, one row after the other
unfoldable pub joined : List (List ℕ) → List ℕ
joined [] = []
joined (r ∷ t) = r ++ joined t

-- 'what precedes the rows staying first': the head of page p, then the rows of table t
abbrev pub laid_out : List ℕ → List (List ℕ) → List ℕ
laid_out p t = take head_words p ++ joined t

-- 'its sixteen rows of eight words become eight rows of sixteen, row w being word w of slots 0 to 15 in order'
unfoldable pub columns_of : List (List ℕ) → List (List ℕ)
columns_of t = grid (λ w s. get_or (get_or t s []) w 0) slot_words slot_count

-- page p by columns
unfoldable pub to_columns : List ℕ → List ℕ
to_columns p = laid_out p (columns_of (rows_of p 0))

-- where place s of row w stands in a page by columns
abbrev pub column_at : ℕ → ℕ → ℕ
column_at w s = head_words + slot_count * w + s

-- 'and the inverse restores it': the sixteen rows of eight words of which p has the columns, row s being place s of rows 0 to 7 in order
unfoldable pub slots_in : List ℕ → List (List ℕ)
slots_in p = grid (λ s w. get_or p (column_at w s) 0) slot_count slot_words

-- the page of which p has the columns
unfoldable pub from_columns : List ℕ → List ℕ
from_columns p = laid_out p (slots_in p)
