-- Document 02, L5: pages by columns and back, and what the calls answer, in a table proved by a single statement over it. Assumes nothing.
use Rattle.std.specs.Prelude.{ℕ, zero, suc, ◌+◌, ◌≡◌, refl, Bool, true, ◌&&◌, List, [], ◌∷◌, ◌++◌, replicate, eqb}
use Rattle.pages.specs.Table.{tabulate, rows_of}
use Rattle.areas.specs.Answers.{answer_of, value_of}
use Rattle.columns.specs.Columns.{grid, joined, columns_of, to_columns, slots_in, from_columns}
use Rattle.columns.specs.ColumnCalls.{arrange_answer, arranged}
use Rattle.computing.specs.Stores.{same_words}

-- a row: a page, and the same by columns; columns, and the page that has them; a page that either order gives back; a number with which
-- both calls refuse a page and an out of these lengths, out as it was
pub data Row : Type 0 where
  turns : List ℕ → List ℕ → Row
  turns_back : List ℕ → List ℕ → Row
  returns : List ℕ → Row
  refusal : ℕ → ℕ → ℕ → Row

-- the words 1, 2, .. n
abbrev pub counted : ℕ → List ℕ
counted n = tabulate (λ i. i + 1) n

-- n words from a, m apart
unfoldable pub apart : ℕ → ℕ → ℕ → List ℕ
apart a m zero = []
apart a m (suc n) = a ∷ apart (a + m) m n

-- k runs of n words m apart, each from one later than the run before
unfoldable pub runs : ℕ → ℕ → ℕ → ℕ → List ℕ
runs a m n zero = []
runs a m n (suc k) = apart a m n ++ runs (a + 1) m n k

-- n words that are lent to be filled
abbrev pub used : ℕ → List ℕ
used n = replicate n 7

-- the call answers with this number, the value is 0, and out is so
unfoldable pub answers : (List ℕ → List ℕ) → ℕ → List ℕ → List ℕ → List ℕ → Bool
answers f x page out after = let a = arrange_answer page out in eqb (answer_of a) x && eqb (value_of a) 0 && same_words (arranged f page out) after

-- a row of the table is right
unfoldable pub right : Row → Bool
right (turns p q) = answers to_columns 0 p (used 129) q
right (turns_back p q) = answers from_columns 0 p (used 129) q
right (returns p) = same_words (from_columns (to_columns p)) p && same_words (to_columns (from_columns p)) p
right (refusal x m n) = answers to_columns x (counted m) (used n) (used n) && answers from_columns x (counted m) (used n) (used n)

-- all rows are
unfoldable pub all_right : List Row → Bool
all_right [] = true
all_right (r ∷ rs) = let on = all_right rs in right r && on

-- map 32, and slot 5 holds 1 to 8
abbrev pub slot_five : List ℕ
slot_five = 32 ∷ replicate 40 0 ++ counted 8 ++ replicate 80 0

-- the same by columns: eight times sixteen words, of which the sixth is the number
abbrev pub fifths : List ℕ
fifths = 32 ∷ joined (tabulate (λ w. replicate 5 0 ++ ((w + 1) ∷ replicate 10 0)) 8)

-- 'its sixteen rows of eight words become eight rows of sixteen .. what precedes the rows staying first, and the inverse restores it. Either
-- order gives the page back, for all words .. a wrong length is 1.'
pub table : List Row
table =
    turns (counted 129) (1 ∷ runs 2 8 16 8)
    ∷ turns_back (counted 129) (1 ∷ runs 2 16 8 16)
    ∷ turns slot_five fifths
    ∷ turns_back fifths slot_five
    ∷ turns (0 ∷ 9 ∷ replicate 127 0) (0 ∷ 9 ∷ replicate 127 0)
    ∷ turns_back (0 ∷ 9 ∷ replicate 127 0) (0 ∷ 9 ∷ replicate 127 0)
    ∷ turns (replicate 128 0 ++ (9 ∷ [])) (replicate 128 0 ++ (9 ∷ []))
    ∷ turns (replicate 129 4294967295) (replicate 129 4294967295)
    ∷ turns_back (replicate 129 4294967295) (replicate 129 4294967295)
    ∷ returns (counted 129)
    ∷ returns slot_five
    ∷ refusal 1 0 129
    ∷ refusal 1 129 0
    ∷ refusal 1 128 129
    ∷ refusal 1 129 128
    ∷ refusal 1 130 129
    ∷ refusal 1 129 130
    ∷ refusal 1 145 129
    ∷ refusal 1 258 258
    ∷ refusal 1 130 130
    ∷ []

pub columns_right : all_right table ≡ true
unfolding all_right right answers table apart runs same_words tabulate rows_of grid joined columns_of to_columns slots_in from_columns arrange_answer arranged
columns_right = refl
