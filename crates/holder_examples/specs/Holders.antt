-- Document 02, L2: whom refusal 6 tells, from masks that calls lead to and from others, in a table proved by a single statement over it.
-- Assumes nothing.
use Rattle.std.specs.Prelude.{ℕ, ◌+◌, ◌^◌, ◌≡◌, refl, Bool, true, ◌&&◌, ◌||◌, List, [], ◌∷◌, set, eqb}
use Rattle.areas.specs.Answers.{answer_of, value_of}
use Rattle.areas.specs.Areas.{Areas, with_work}
use Rattle.areas.specs.Layout.{active_at, readers_at, writers_at}
use Rattle.calls.specs.Calls.{Call, lock_read, lock_write, perform}
use Rattle.computing.specs.Calls.{calls}
use Rattle.computing.specs.Stores.{same_words, same_areas, allowed}

-- a mask of these transactions
abbrev pub mask : List ℕ → ℕ
mask [] = 0
mask (t ∷ ts) = 2 ^ t + mask ts

-- two pages, with these masks: who is active, and who reads and who writes page 1
abbrev pub locked : ℕ → ℕ → ℕ → Areas
locked active readers writers =
    let s = allowed 2 8 in with_work s (set (set (set s.work active_at active) (readers_at 2 1) readers) (writers_at 2 1) writers)

-- a row: a store, a call, its number and its value
pub data Row : Type 0 where
  answers : Areas → Call → ℕ → ℕ → Row

-- a row of the table is right; a refused call leaves every word
unfoldable pub right : Row → Bool
right (answers s c x v) = let o = perform s c in eqb (answer_of o.answer) x && eqb (value_of o.answer) v && (eqb x 0 || same_areas o.after s)

-- all rows are
unfoldable pub all_right : List Row → Bool
all_right [] = true
all_right (r ∷ rs) = let on = all_right rs in right r && on

-- transactions 2, 7, 9, 11 and 12 are active
abbrev pub active : ℕ
active = mask (2 ∷ 7 ∷ 9 ∷ 11 ∷ 12 ∷ [])

pub table : List Row
table =
    answers (locked active (mask (2 ∷ 11 ∷ [])) 0) (lock_write 2 1) 6 11
    ∷ answers (locked active (mask (2 ∷ 11 ∷ [])) 0) (lock_write 11 1) 6 2
    ∷ answers (locked active (mask (2 ∷ 11 ∷ [])) 0) (lock_read 7 1) 0 0
    ∷ answers (locked active 0 (mask (9 ∷ []))) (lock_read 7 1) 6 9
    ∷ answers (locked active 0 (mask (9 ∷ []))) (lock_write 9 1) 0 0
    ∷ answers (locked active (mask (2 ∷ 7 ∷ [])) (mask (9 ∷ []))) (lock_read 7 1) 6 2
    ∷ answers (locked active (mask (2 ∷ 7 ∷ [])) (mask (9 ∷ []))) (lock_write 7 1) 6 2
    ∷ answers (locked active 0 (mask (7 ∷ 12 ∷ []))) (lock_read 7 1) 6 12
    ∷ answers (locked active 0 (mask (7 ∷ 12 ∷ []))) (lock_write 7 1) 6 12
    ∷ answers (locked active 65535 0) (lock_read 7 1) 0 0
    ∷ answers (locked active 65535 0) (lock_write 7 1) 6 0
    ∷ answers (locked active (mask (5 ∷ [])) 0) (lock_write 7 1) 6 5
    ∷ answers (locked active (mask (5 ∷ [])) 0) (lock_write 5 1) 4 0
    ∷ answers (locked active (mask (5 ∷ [])) 0) (lock_write 7 2) 3 0
    ∷ answers (locked active 65536 0) (lock_write 7 1) 1 0
    ∷ []

pub holders_right : all_right table ≡ true
unfolding all_right right table same_areas same_words calls
holders_right = refl
