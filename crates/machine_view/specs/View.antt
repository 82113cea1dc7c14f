-- The objects that a page area shows, and what a record does to each of them. Assumes nothing.
use Rattle.std.specs.Prelude.{ℕ, Bool, ◌&&◌, ◌||◌, List, leb, ltb, eqb}
use Rattle.words.specs.Tests.{if}
use Rattle.pages.specs.Objects.{occupied, word_of}
use Rattle.records.specs.declared.Record.{Record}
use Rattle.collector.specs.Objects.{Obj, blank, fresh, put}
use Rattle.book.specs.Pointers.{sweeps}
use Rattle.pages.specs.Geometry.{slot_words}

-- object x of an area; number 0 is nobody
abbrev pub shown : List ℕ → ℕ → Obj
shown a x = record { occ = occupied a x; word = λ f. if (ltb f slot_words) (word_of a x f) 0 }

unfoldable pub view : List ℕ → ℕ → Obj
view a x = if (leb 1 x) (shown a x) blank

-- the record is of this kind and names object x
abbrev pub names : ℕ → Record → ℕ → Bool
names k r x = eqb r.kind k && eqb r.object x

-- what a record makes of object x, and what undoing it does
unfoldable pub applied : Record → ℕ → Obj → Obj
applied r x b = if (names 2 r x) fresh (if (names 3 r x) (put b r.field r.new) (if (names 6 r x || sweeps r x) blank b))

unfoldable pub unapplied : Record → ℕ → Obj → Obj
unapplied r x b = if (names 2 r x) blank (if (names 3 r x) (put b r.field r.old) (if (names 6 r x) fresh b))
