-- Document 02, L9: clients and rights, in lists of calls with their answers. Assumes nothing.
use Rattle.std.specs.Prelude.{ℕ, ◌≡◌, refl, true, List, [], ◌∷◌, ◌++◌, replicate, set, eqb}
use Rattle.pages.specs.Geometry.{slot_words, page_words}
use Rattle.areas.specs.Areas.{with_work}
use Rattle.areas.specs.Layout.{active_at, readers_at, client_at, right_at}
use Rattle.areas.specs.Tables.{at}
use Rattle.calls.specs.Formatting.{formatted}
use Rattle.calls.specs.Calls.{begin, commit, abort, grant, lock_read, lock_write, read, create, flush, force, store, empty, pass, step, reopen, restep, mark, back}
use Rattle.computing.specs.Calls.{calls}
use Rattle.computing.specs.Stores.{same_words, same_areas, refused_by}
use Rattle.computing.specs.Rows.{Row, takes, refuses, holds, power, right}

-- as whom t began, and the right of client c on page p, in a store of n pages
abbrev pub noted : ℕ → ℕ → ℕ → Row
noted n t c = holds (λ s. eqb (at s.work (client_at n t)) c)

abbrev pub given : ℕ → ℕ → ℕ → ℕ → Row
given n c p r = holds (λ s. eqb (at s.work (right_at n c p)) r)

-- a day: who may read page 0, and who write it, in a store of four pages
abbrev pub day : List Row
day =
    -- 'a client or right out of range is 3'
    refuses (begin 0 8) 3
    ∷ refuses (grant 8 0 1) 3
    ∷ refuses (grant 0 4 1) 3
    ∷ refuses (grant 0 0 3) 3
    -- a formatted store gives nobody a right; a right that is given while a transaction runs is another client's
    ∷ takes (begin 0 2) 1
    ∷ noted 4 0 2
    ∷ refuses (lock_read 0 0) 19
    ∷ refuses (grant 2 0 1) 4
    ∷ takes (grant 3 0 1) 0
    ∷ takes (commit 0) 2
    ∷ noted 4 0 0
    -- 'A read lock needs reading, a write lock needs writing': to become the writer too
    ∷ takes (grant 2 0 1) 0
    ∷ takes (begin 0 2) 3
    ∷ takes (lock_read 0 0) 0
    ∷ refuses (lock_write 0 0) 19
    ∷ takes (read 0 1 (replicate slot_words 0)) 0
    ∷ refuses (grant 2 0 0) 4
    -- 19 comes before 6, and so does not tell who has the page
    ∷ takes (begin 1 3) 4
    ∷ refuses (lock_write 1 0) 19
    ∷ takes (commit 1) 5
    ∷ takes (grant 3 0 2) 0
    ∷ takes (begin 1 3) 6
    ∷ refuses (lock_write 1 0) 6
    ∷ takes (lock_read 1 0) 0
    -- rights are by page, and by client; 4 comes before 19
    ∷ refuses (lock_read 1 1) 19
    ∷ refuses (lock_read 4 0) 4
    ∷ refuses (lock_read 0 4) 3
    ∷ given 4 2 0 1
    ∷ given 4 3 0 2
    ∷ given 4 0 0 0
    ∷ given 4 2 1 0
    -- two transactions of one client
    ∷ takes (begin 2 3) 7
    ∷ takes (lock_read 2 0) 0
    ∷ refuses (begin 2 1) 4
    ∷ refuses (begin 2 8) 3
    ∷ takes (abort 2) 8
    ∷ refuses (grant 3 0 0) 4
    ∷ takes (abort 1) 9
    ∷ takes (grant 3 0 0) 0
    ∷ given 4 3 0 0
    ∷ []

pub a_day : right day (formatted 4 64) ≡ true
unfolding right refused_by same_areas same_words calls
a_day = refl

-- a page with this map whose root has this word 0
abbrev pub page : ℕ → ℕ → List ℕ
page m x = set (set (replicate page_words 0) 0 m) 1 x

-- 'Reopening gives all clients nothing', and so does a cut; the collector, an abort and going back need no rights, and emptying leaves them
abbrev pub reopenings : List Row
reopenings =
    takes (grant 1 0 2) 0
    ∷ takes (begin 0 1) 1
    ∷ takes (lock_write 0 0) 0
    ∷ takes (mark 0 0) 0
    ∷ takes (create 0 2) 2
    ∷ takes (back 0 0) 0
    ∷ takes (create 0 2) 4
    ∷ noted 1 0 1
    ∷ takes (flush 0 0 (page 3 0)) 0
    ∷ noted 1 0 1
    ∷ takes (commit 0) 5
    ∷ takes pass 0
    ∷ takes step 1
    ∷ takes step 0
    ∷ takes step 1
    ∷ takes force 1
    ∷ takes force 2
    ∷ takes force 3
    ∷ takes force 4
    ∷ takes force 5
    ∷ takes force 6
    ∷ takes (store 0) 0
    ∷ takes empty 0
    ∷ given 1 1 0 2
    ∷ takes (begin 0 1) 1
    ∷ takes (lock_write 0 0) 0
    -- an accepted reopen, whose steps have to end before a right is given
    ∷ takes reopen 0
    ∷ given 1 1 0 0
    ∷ noted 1 0 0
    ∷ refuses (grant 1 0 2) 2
    ∷ takes restep 0
    ∷ refuses (grant 1 0 2) 2
    ∷ takes restep 1
    ∷ takes (begin 0 1) 1
    ∷ refuses (lock_read 0 0) 19
    ∷ takes (abort 0) 2
    ∷ takes (grant 1 0 1) 0
    ∷ takes (begin 0 1) 3
    ∷ takes (lock_read 0 0) 0
    -- a cut
    ∷ power
    ∷ given 1 1 0 0
    ∷ takes reopen 0
    ∷ takes restep 0
    ∷ takes restep 1
    ∷ takes (begin 0 1) 1
    ∷ refuses (lock_read 0 0) 19
    ∷ []

pub some_reopenings : right reopenings (formatted 1 32) ≡ true
unfolding right refused_by same_areas same_words calls
some_reopenings = refl

-- states that no calls lead to: words of work, one after the other
abbrev pub words : ℕ → ℕ → List Row → List Row
words i v rs = holds (λ s. right rs (with_work s (set s.work i v))) ∷ []

-- a lock without its right asks in vain; a client beside an inactive transaction does not count; the largest values
abbrev pub rubbish : List Row
rubbish =
    words active_at 1 (words (readers_at 1 0) 1 (refuses (lock_read 0 0) 19 ∷ words (client_at 1 0) 5 (words (right_at 1 5 0) 1 (takes (lock_read 0 0) 0 ∷ []))))

pub a_lock_without_right : right rubbish (formatted 1 8) ≡ true
unfolding right refused_by same_areas same_words calls
a_lock_without_right = refl

abbrev pub inactive : List Row
inactive = words (client_at 1 3) 5 (takes (grant 5 0 2) 0 ∷ noted 1 3 5 ∷ takes (begin 3 6) 1 ∷ noted 1 3 6 ∷ takes (grant 5 0 1) 0 ∷ refuses (grant 6 0 1) 4 ∷ [])

pub an_inactive_client : right inactive (formatted 1 8) ≡ true
unfolding right refused_by same_areas same_words calls
an_inactive_client = refl

abbrev pub tops : List Row
tops =
    words (client_at 1 15) 7 (takes pass 0 ∷ [])
    ++ words (client_at 1 15) 8 (refuses pass 1 ∷ [])
    ++ words (right_at 1 7 0) 2 (takes pass 0 ∷ [])
    ++ words (right_at 1 7 0) 3 (refuses pass 1 ∷ [])

pub the_tops : right tops (formatted 1 2) ≡ true
unfolding right refused_by same_areas same_words calls
the_tops = refl

-- no begin is accepted where L is 1
pub one_record : right (words (client_at 1 15) 0 (takes pass 0 ∷ []) ++ words (client_at 1 15) 1 (refuses pass 1 ∷ [])) (formatted 1 1) ≡ true
unfolding right refused_by same_areas same_words calls
one_record = refl
