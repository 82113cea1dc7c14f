-- Document 02, L6: a page swept under its reader, and what a flush compares, in tables proved by a single statement over each. Assumes nothing.
use Rattle.std.specs.Prelude.{ℕ, ◌≡◌, refl, Bool, true, ◌&&◌, List, [], ◌∷◌, ◌++◌, replicate, set, eqb}
use Rattle.pages.specs.Objects.{map_at}
use Rattle.areas.specs.Answers.{answer_of, value_of}
use Rattle.areas.specs.Areas.{Areas}
use Rattle.calls.specs.Calls.{Call, begin, commit, lock_read, lock_write, read, create, set_word, flush, pass, step, perform}
use Rattle.computing.specs.Calls.{calls}
use Rattle.computing.specs.Stores.{same_words, same_areas, refused_by, after, allowed}

-- a call is accepted with this value
unfoldable pub accepts : ℕ → Call → Areas → Bool
accepts v c s = let o = perform s c in eqb (answer_of o.answer) 0 && eqb (value_of o.answer) v

-- a page of zeros with this map
abbrev pub page : ℕ → List ℕ
page m = m ∷ replicate 128 0

-- the page with word i another one
abbrev pub but : List ℕ → ℕ → ℕ → List ℕ
but image i v = set image i v

-- object 2 is created and committed, and nothing names it
abbrev pub garbage : List Call
garbage = begin 0 0 ∷ lock_write 0 0 ∷ create 0 2 ∷ flush 0 0 (page 3) ∷ commit 0 ∷ []

-- the root is scanned, and the pass turns to sweeping: the next step is of the page
abbrev pub to_sweeping : List Call
to_sweeping = pass ∷ step ∷ step ∷ []

-- 'a page is skipped only if someone has it write-locked': under a reader it is swept, under a writer it is not
pub swept_under_a_reader : after (garbage ++ begin 1 0 ∷ lock_read 1 0 ∷ read 1 1 (replicate 8 0) ∷ to_sweeping) (accepts 1 step) (allowed 1 16) ≡ true
unfolding accepts after calls
swept_under_a_reader = refl

pub skipped_under_a_writer : after (garbage ++ begin 1 0 ∷ lock_write 1 0 ∷ to_sweeping) (accepts 0 step) (allowed 1 16) ≡ true
unfolding accepts after calls
skipped_under_a_writer = refl

-- a row: an image that is taken, and the copy's map then; one that is refused with this number, every word as it was
pub data Row : Type 0 where
  takes : List ℕ → ℕ → Row
  refuses : List ℕ → ℕ → Row

-- a row is right, of page 0 and transaction t
unfoldable pub right : ℕ → Areas → Row → Bool
right t s (takes image m) = let o = perform s (flush t 0 image) in eqb (answer_of o.answer) 0 && eqb (map_at o.after.copies 0) m
right t s (refuses image x) = refused_by x 0 s (flush t 0 image)

-- all rows are
unfoldable pub all_right : ℕ → List Row → Areas → Bool
all_right t [] s = true
all_right t (r ∷ rs) s = let on = all_right t rs s in right t s r && on

-- 'A tablet may then flush an image that still shows a swept slot': its reader becomes the writer, and sends the page
abbrev pub stale : List Row
stale =
    -- as it was read before the sweep
    takes (page 3) 1
    -- words in the swept slot; its last word
    ∷ takes (but (page 3) 9 77) 1
    ∷ takes (but (page 3) 16 77) 1
    -- 'the map .. of the image do not count'
    ∷ takes (page 0) 1
    ∷ takes (page 65536) 1
    -- slots that nobody ever used
    ∷ takes (but (page 1) 128 7) 1
    -- each word of the root counts
    ∷ refuses (but (page 1) 1 7) 9
    ∷ refuses (but (page 1) 5 7) 9
    ∷ refuses (but (page 1) 8 7) 9
    -- whatever the image's map says of it
    ∷ refuses (but (page 0) 5 7) 9
    -- the length is part of refusal 1
    ∷ refuses (1 ∷ replicate 127 0) 1
    ∷ refuses (page 1 ++ 0 ∷ []) 1
    ∷ []

pub stale_images : after (garbage ++ begin 1 0 ∷ lock_read 1 0 ∷ to_sweeping ++ step ∷ lock_write 1 0 ∷ []) (all_right 1 stale) (allowed 1 16) ≡ true
unfolding all_right right refused_by same_areas same_words after calls
stale_images = refl

-- the last word of slot 15 is 9
abbrev pub last : List Row
last =
    takes (but (page 32769) 128 9) 32769
    -- 'the copy takes the received page', its map too
    ∷ takes (but (page 0) 128 9) 32769
    ∷ takes (but (but (page 32769) 128 9) 9 5) 32769
    ∷ refuses (page 32769) 9
    ∷ refuses (page 0) 9
    ∷ refuses (but (page 32769) 128 8) 9
    ∷ refuses (but (but (page 32769) 128 9) 121 1) 9
    ∷ []

pub last_slot : after (begin 0 0 ∷ lock_write 0 0 ∷ create 0 16 ∷ set_word 0 16 7 9 ∷ []) (all_right 0 last) (allowed 1 16) ≡ true
unfolding all_right right refused_by same_areas same_words after calls
last_slot = refl
