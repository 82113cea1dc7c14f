-- Document 02, L8: sets of an object's own number, and old stores that hold one, in lists of calls with their answers. Assumes nothing.
use Rattle.std.specs.Prelude.{ℕ, ◌≡◌, refl, true, ◌&&◌, List, [], ◌∷◌, replicate, set, eqb}
use Rattle.pages.specs.Geometry.{slot_words, page_words}
use Rattle.pages.specs.Objects.{map_at, word_of, written}
use Rattle.records.specs.Records.{record_at}
use Rattle.areas.specs.Areas.{Areas}
use Rattle.areas.specs.Layout.{pruned_at}
use Rattle.areas.specs.Tables.{has}
use Rattle.calls.specs.Calls.{begin, commit, abort, lock_write, read, create, set_word, flush, force, pass, step, reopen, restep, mark, back}
use Rattle.computing.specs.Calls.{calls}
use Rattle.computing.specs.Stores.{same_words, same_areas, refused_by, allowed}
use Rattle.computing.specs.Rows.{Row, takes, refuses, holds, power, right}

-- page 0 with this map, and these words 0 of objects 1 and 2
abbrev pub page : ℕ → ℕ → ℕ → List ℕ
page m x y = written (written (set (replicate page_words 0) 0 m) 1 0 x) 2 0 y

-- a tablet's morning: the root and a new object, in every word that a set may name
abbrev pub morning : List Row
morning =
    takes (begin 0 0) 1
    ∷ takes (lock_write 0 0) 0
    -- the root counts; data words take any number
    ∷ refuses (set_word 0 1 0 1) 18
    ∷ takes (set_word 0 1 4 1) 2
    ∷ takes (create 0 2) 3
    -- the last reference word; another object; a ring of two
    ∷ refuses (set_word 0 2 3 2) 18
    ∷ takes (set_word 0 2 3 1) 4
    ∷ takes (set_word 0 1 0 2) 5
    -- t does not know object 3, nor any other reference to it
    ∷ refuses (set_word 0 3 0 3) 7
    -- a word out of range, another transaction, a page that is not locked
    ∷ refuses (set_word 0 2 8 2) 3
    ∷ refuses (set_word 1 2 0 2) 4
    ∷ takes (begin 1 0) 6
    ∷ refuses (set_word 1 1 0 1) 5
    ∷ takes (flush 0 0 (written (written (page 3 2 0) 1 4 1) 2 3 1)) 0
    ∷ takes (commit 0) 7
    ∷ takes pass 0
    ∷ takes step 1
    ∷ takes step 2
    ∷ takes step 0
    ∷ []

pub a_morning : right morning (allowed 1 16) ≡ true
unfolding right refused_by same_areas same_words calls
a_morning = refl

-- '18 .. after 7', and so before 11: in a log of five records
abbrev pub full_log : List Row
full_log =
    takes (begin 0 0) 1
    ∷ takes (lock_write 0 0) 0
    ∷ takes (set_word 0 1 6 1) 2
    ∷ refuses (set_word 0 1 1 1) 18
    ∷ refuses (set_word 0 1 5 1) 11
    ∷ refuses (set_word 0 1 0 0) 11
    ∷ refuses (set_word 0 2 0 2) 7
    ∷ []

pub a_full_log : right full_log (allowed 1 5) ≡ true
unfolding right refused_by same_areas same_words calls
a_full_log = refl

-- a store of before with these pages, open
unfoldable pub holding : List ℕ → Areas
holding p = let s = allowed 1 16 in record { stored = p; copies = p; received = p; log = s.log; counts = s.counts; work = s.work }

-- word 0 of object 2 in the received pages and in the copies
abbrev pub second : ℕ → ℕ → Row
second x y = holds (λ s. eqb (word_of s.received 2 0) x && eqb (word_of s.copies 2 0) y)

-- record i of the log, a set of word 0 of object 2
abbrev pub set2 : ℕ → ℕ → ℕ → Row
set2 i old new = holds (λ s. let r = record_at s.log i in eqb r.kind 3 && eqb r.object 2 && eqb r.field 0 && eqb r.old old && eqb r.new new)

-- 'Ones already stored stay, are read, marked and reopened, and may be overwritten. Undoing may put an old one back.': 1 names 2, 2 names itself
abbrev pub old_one : List Row
old_one =
    takes (begin 0 0) 1
    ∷ takes (lock_write 0 0) 0
    ∷ takes (read 0 1 (replicate slot_words 0)) 2
    ∷ takes (read 0 2 (replicate slot_words 0)) 2
    -- also where it stands already
    ∷ refuses (set_word 0 2 0 2) 18
    -- overwritten: the PRT gains it
    ∷ takes (set_word 0 2 0 0) 2
    ∷ holds (λ s. has s.work (pruned_at 1 2) 0)
    ∷ set2 1 2 0
    ∷ second 0 2
    ∷ refuses (set_word 0 2 0 2) 18
    -- flushed, and put back by an abort
    ∷ takes (flush 0 0 (page 3 2 0)) 0
    ∷ second 0 0
    ∷ takes (abort 0) 4
    ∷ set2 2 0 2
    ∷ second 2 2
    -- put back by going back to a mark
    ∷ takes (begin 0 0) 5
    ∷ takes (lock_write 0 0) 0
    ∷ takes (read 0 1 (replicate slot_words 0)) 2
    ∷ takes (mark 0 0) 0
    ∷ takes (set_word 0 2 0 1) 6
    ∷ takes (back 0 0) 0
    ∷ set2 6 1 2
    ∷ second 2 2
    ∷ refuses (set_word 0 2 0 2) 18
    -- all of it stable, and reopened
    ∷ takes force 1
    ∷ takes force 2
    ∷ takes force 3
    ∷ takes force 4
    ∷ takes force 5
    ∷ takes force 6
    ∷ takes force 7
    ∷ power
    ∷ takes reopen 0
    ∷ second 2 2
    ∷ takes restep 0
    ∷ takes restep 1
    -- marked: the old one once
    ∷ takes pass 0
    ∷ takes step 1
    ∷ takes step 2
    ∷ takes step 0
    ∷ takes step 0
    ∷ []

pub an_old_one : right old_one (holding (page 3 2 2)) ≡ true
unfolding right holding refused_by same_areas same_words calls
an_old_one = refl

-- what names only itself is not reached, and goes: 1 names nothing, 2 names itself
abbrev pub unreached : List Row
unreached =
    takes pass 0
    ∷ takes step 1
    ∷ takes step 0
    ∷ takes step 1
    ∷ holds (λ s. eqb (map_at s.received 0) 1)
    ∷ second 0 0
    ∷ []

pub an_unreached_one : right unreached (holding (page 3 0 2)) ≡ true
unfolding right holding refused_by same_areas same_words calls
an_unreached_one = refl
