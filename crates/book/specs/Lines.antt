-- Document 01, 'The book': lines, strikes, and the states that lines show. Lists of lines are newest first. Assumes nothing.
use Rattle.std.specs.Prelude.{ℕ, zero, suc, ◌+◌, Bool, true, false, not, ◌&&◌, ◌||◌, List, [], ◌∷◌, eqb}
use Rattle.words.specs.Tests.{if}
use Rattle.records.specs.declared.Record.{Record}
use Rattle.records.specs.Records.{is_create, is_end}
use Rattle.records.specs.Effects.{effect, undoing}

-- 'Each record that an accepted call appends by these papers is a line; each begin line opens a transaction of its own': the record,
-- the own transaction (from 1; a sweep has 0), and whether the line is struck out
pub record Line : Type 0 where
  pub entry : Record
  pub owner : ℕ
  pub struck : Bool

-- a line of transaction i, not struck out
abbrev pub line : Record → ℕ → Line
line r i = record { entry = r; owner = i; struck = false }

-- 'strikes out'
abbrev pub struck_out : Line → Line
struck_out l = record { entry = l.entry; owner = l.owner; struck = true }

-- a create or set of own transaction i that is left
abbrev pub is_left : ℕ → Line → Bool
is_left i l = eqb l.owner i && not l.struck && (eqb l.entry.kind 2 || eqb l.entry.kind 3)

-- how many are left
unfoldable pub left : ℕ → List Line → ℕ
left i [] = 0
left i (l ∷ ls) = left i ls + if (is_left i l) 1 0

-- the lines with the newest one that is left struck out
unfoldable pub struck_newest : ℕ → List Line → List Line
struck_newest i [] = []
struck_newest i (l ∷ ls) = let on = l ∷ struck_newest i ls in let here = struck_out l ∷ ls in if (is_left i l) here on

-- the undoing line of the newest one that is left, struck out itself; the lines of before where none is left
unfoldable pub undoing_newest : ℕ → List Line → List Line → List Line
undoing_newest i [] rest = rest
undoing_newest i (l ∷ ls) rest =
    let on = undoing_newest i ls rest in let here = struck_out (line (undoing l.entry) i) ∷ rest in if (is_left i l) here on

-- 'an undoing line strikes out itself and t's newest create or set left': k times
unfoldable pub undone_lines : ℕ → ℕ → List Line → List Line
undone_lines i zero ls = ls
undone_lines i (suc k) ls = undone_lines i k (undoing_newest i ls (struck_newest i ls))

-- the newest one that is left creates object o
unfoldable pub newest_creates : ℕ → List Line → ℕ → Bool
newest_creates i [] o = false
newest_creates i (l ∷ ls) o = let on = newest_creates i ls o in if (is_left i l) (is_create l.entry && eqb l.entry.object o) on

-- own transaction i has a line of kind 4; one of kind 4 or 5
unfoldable pub has_commit : ℕ → List Line → Bool
has_commit i [] = false
has_commit i (l ∷ ls) = (eqb l.entry.kind 4 && eqb l.owner i) || has_commit i ls

-- transaction i has a line of 'kind 4 or 5'
unfoldable pub has_end : ℕ → List Line → Bool
has_end i [] = false
has_end i (l ∷ ls) = (is_end l.entry && eqb l.owner i) || has_end i ls

-- the lines that pass a test
unfoldable pub filtered : (Line → Bool) → List Line → List Line
filtered f [] = []
filtered f (l ∷ ls) = let on = filtered f ls in if (f l) (l ∷ on) on

-- 'the formatted pages after, in line order, ..' these lines: a, the pages that the book starts from
unfoldable pub pages_after : List ℕ → List Line → List ℕ
pages_after a [] = a
pages_after a (l ∷ ls) = effect (pages_after a ls) l.entry
