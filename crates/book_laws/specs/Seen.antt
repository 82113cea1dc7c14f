-- Lines read object by object: what the lines that pass a test make of an object, and which lines it is of. This serves the proof of
-- demand 3; its claim never mentions it. Assumes nothing.
use Rattle.std.specs.Prelude.{ℕ, suc, Bool, not, ◌&&◌, ◌||◌, List, [], ◌∷◌, length}
use Rattle.words.specs.Tests.{if}
use Rattle.records.specs.declared.Record.{Record}
use Rattle.records.specs.Records.{is_sweep}
use Rattle.collector.specs.Objects.{Obj, Tag, born_at, stamp}
use Rattle.machine_view.specs.View.{view, names, applied}
use Rattle.book.specs.Lines.{Line, has_commit, filtered}
use Rattle.book.specs.Books.{Book, counts_committed, counts_full}
use Rattle.book.specs.Pointers.{makes_or_frees}

-- the committed lines of a list of lines by itself
abbrev pub counted : List Line → Line → Bool
counted ls l = is_sweep l.entry || (not l.struck && has_commit l.owner ls)

unfoldable pub committed_of : List Line → List Line
committed_of ls = filtered (counted ls) ls

-- the record makes, frees or writes object x
abbrev pub touches : Record → ℕ → Bool
touches r x = names 3 r x || makes_or_frees r x

-- the tag of object x after line m with this record
unfoldable pub tagged : ℕ → Record → ℕ → Tag → Tag
tagged m r x a = if (makes_or_frees r x) (born_at m) (if (names 3 r x) (stamp a r.field m) a)

-- an object and its tag
pub record Seen : Type 0 where
  pub object : Obj
  pub tag : Tag

-- object x in the pages that a book starts from
abbrev pub first : List ℕ → ℕ → Seen
first a x = record { object = view a x; tag = born_at 0 }

-- object x after line m with this record
abbrev pub acted : ℕ → Record → ℕ → Seen → Seen
acted m r x v = record { object = applied r x v.object; tag = tagged m r x v.tag }

-- object x after the lines that pass the test, from pages a on. A line's number is 1 and the number of older lines, whether these pass or not.
unfoldable pub seen : List ℕ → (Line → Bool) → List Line → ℕ → Seen
seen a c [] x = first a x
seen a c (l ∷ ls) x = let v = seen a c ls x in let w = acted (suc (length ls)) l.entry x v in if (c l) w v

-- in the committed state and in the full pages
abbrev pub seen_committed : Book → ℕ → Seen
seen_committed b x = seen b.origin (counts_committed b) b.lines x

abbrev pub seen_full : Book → ℕ → Seen
seen_full b x = seen b.origin (counts_full b) b.lines x

-- object x after lines that all count
unfoldable pub made : List ℕ → List Line → ℕ → Obj
made a [] x = view a x
made a (l ∷ ls) x = applied l.entry x (made a ls x)
