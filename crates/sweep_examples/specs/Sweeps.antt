-- Document 02, L7: sweeping steps that end at each test, by the call's definition and in the paper's order, in tables proved by a single
-- statement over each. Assumes nothing.
use Rattle.std.specs.Prelude.{ℕ, zero, suc, ◌+◌, ◌^◌, ◌≡◌, refl, Bool, true, ◌&&◌, List, [], ◌∷◌, set, eqb}
use Rattle.words.specs.Tests.{if}
use Rattle.pages.specs.Geometry.{slot_count}
use Rattle.pages.specs.Objects.{map_at}
use Rattle.records.specs.Records.{recorded, begin_of}
use Rattle.areas.specs.Answers.{answer_of, value_of, accepted}
use Rattle.areas.specs.Areas.{Areas, Out, areas}
use Rattle.areas.specs.Layout.{phase_at, pass_page_at, steps_at, active_at, readers_at, writers_at, created_at, colour_at}
use Rattle.areas.specs.Tables.{at, flag}
use Rattle.calls.specs.Formatting.{formatted}
use Rattle.calls.specs.Calls.{step, perform}
use Rattle.sweep_order.specs.Order.{unmarked_map, occupied_of, reclaimed, swept_in_order, step_in_order}
use Rattle.computing.specs.Calls.{calls}
use Rattle.computing.specs.Stores.{same_words, same_areas}

-- a working word and what it is
pub data Word : Type 0 where
  word : ℕ → ℕ → Word

-- the working tables with these words
unfoldable pub put : List Word → List ℕ → List ℕ
put [] w = w
put (word i v ∷ l) w = put l (set w i v)

-- the first k records of the log are begins
unfoldable pub begins : ℕ → List ℕ → List ℕ
begins zero g = g
begins (suc k) g = recorded (begins k g) k (begin_of 0)

-- n pages; a pass that sweeps, at page 0 after seven steps, the root black, the rest white. Page 0 has this map in copies and received
-- pages; of l records k are received; these working words are different
unfoldable pub sweeps : ℕ → ℕ → ℕ → ℕ → List Word → Areas
sweeps n l k map words =
    let f = formatted n l in
    let w = put (word phase_at 2 ∷ word steps_at 7 ∷ word (colour_at n 1) 2 ∷ words) f.work in
    areas f.stored (set f.copies 0 map) (set f.received 0 map) (begins k f.log) (k ∷ 0 ∷ []) w

-- a row: the records of the log, those received, the map and the words; the answer, its value and the map after
pub data Row : Type 0 where
  row : ℕ → ℕ → ℕ → List Word → ℕ → ℕ → ℕ → Row

-- a step's outcome: answer, value and maps; accepted, the pass is at this phase, page and step number; refused, every word stays
unfoldable pub leaves : ℕ → ℕ → ℕ → Areas → ℕ → ℕ → ℕ → Out → Bool
leaves phase page steps s x v m o =
    let a = o.after in let w = a.work in
    let on = eqb (at w phase_at) phase && eqb (at w pass_page_at) page && eqb (at w steps_at) steps in
    let same = same_areas a s in
    eqb (answer_of o.answer) x && eqb (value_of o.answer) v && eqb (map_at a.copies 0) m && eqb (map_at a.received 0) m
    && (if (accepted o.answer) on same)

-- a row is right by the call, and the paper's order gives the same
unfoldable pub right : ℕ → ℕ → ℕ → ℕ → Row → Bool
right n phase page steps (row l k map words x v m) =
    let s = sweeps n l k map words in let o = perform s step in let r = step_in_order s in
    leaves phase page steps s x v m o && leaves phase page steps s x v m r && same_areas o.after r.after

-- all rows are
unfoldable pub all_right : ℕ → ℕ → ℕ → ℕ → List Row → Bool
all_right n phase page steps [] = true
all_right n phase page steps (r ∷ rs) = let on = all_right n phase page steps rs in right n phase page steps r && on

-- the k words from word i on
abbrev pub from : ℕ → ℕ → ℕ → List Word
from i v zero = []
from i v (suc k) = word (i + k) v ∷ from i v k

-- all objects of page 0 are black
abbrev pub all_black : ℕ → List Word
all_black n = from (colour_at n 1) 2 slot_count

-- all of them have a COT entry
abbrev pub all_new : ℕ → List Word
all_new n = from (created_at n 1) 1 slot_count

-- of n pages: the way that a step takes by each test, and one that frees. Maps: 1 has object 1, 17 objects 1 and 5, 49 1, 5 and 6, 273 1, 5 and 9
abbrev pub ways : ℕ → List Row
ways n =
    row 4 0 273 [] 0 2 1
    -- nothing to free by the colours, and by the COT; then neither the lock nor the log matters
    ∷ row 4 0 17 (all_black n) 0 0 17
    ∷ row 4 0 17 (all_new n) 0 0 17
    ∷ row 1 1 17 (word (writers_at n 0) 1 ∷ all_new n) 0 0 17
    -- locked for writing: skipped, with a full log too; for reading: swept
    ∷ row 4 0 17 (word (writers_at n 0) 1 ∷ []) 0 0 17
    ∷ row 1 1 17 (word (writers_at n 0) 1 ∷ []) 0 0 17
    ∷ row 4 0 17 (word (readers_at n 0) 1 ∷ []) 0 1 1
    -- the page has none of the white slots occupied: a full log does not matter
    ∷ row 1 1 1 [] 0 0 1
    -- it has one: no room, or reserved for one that runs
    ∷ row 1 1 17 [] 11 0 17
    ∷ row 3 2 17 (word active_at 1 ∷ []) 11 0 17
    -- and room for just one record
    ∷ row 2 1 17 [] 0 1 1
    -- a COT entry spares its object, a flagged one too
    ∷ row 4 0 49 (word (created_at n 5) 1 ∷ []) 0 1 17
    ∷ row 4 0 49 (word (created_at n 5) (2 ^ flag) ∷ []) 0 1 17
    -- the last slot; every slot but the root's
    ∷ row 4 0 32769 [] 0 1 1
    ∷ row 4 0 65535 [] 0 15 1
    -- in rubbish the root may be white
    ∷ row 4 0 17 (word (colour_at n 1) 0 ∷ word (colour_at n 5) 2 ∷ []) 0 1 16
    ∷ []

-- one page: each accepted step ends the pass
pub one_page : all_right 1 0 0 0 (ways 1) ≡ true
unfolding all_right right leaves sweeps begins put same_areas same_words unmarked_map occupied_of reclaimed swept_in_order step_in_order calls
one_page = refl

-- two pages: each goes on to page 1, and counts
pub two_pages : all_right 2 2 1 8 (ways 2) ≡ true
unfolding all_right right leaves sweeps begins put same_areas same_words unmarked_map occupied_of reclaimed swept_in_order step_in_order calls
two_pages = refl
