-- A list of calls and cuts that demand 3 speaks of, computed with its book: what a transaction has come to know, a sweep that frees a
-- record, its slot filled again, a pointer from before that no longer leads, the lines that a cut leaves, and a cut between the steps of
-- the reopening. So the theorem is not empty, and its words say something. Assumes nothing.
use Rattle.std.specs.Prelude.{ℕ, ◌≡◌, refl, Bool, true, false, not, ◌&&◌, List, [], ◌∷◌, ◌++◌, replicate, eqb}
use Rattle.pages.specs.Objects.{occupied, word_of}
use Rattle.areas.specs.Answers.{answer_of, value_of}
use Rattle.calls.specs.Calls.{Call, begin, grant, lock_read, commit, lock_write, read, create, set_word, flush, force, pass, step, reopen, restep, perform}
use Rattle.book.specs.Lines.{Line}
use Rattle.book.specs.Books.{full_lines}
use Rattle.book.specs.Pointers.{unbroken}
use Rattle.book.specs.Demand.{call, power, Point, accepts, after, start}
use Rattle.computing.specs.Book.{book}

-- an event of the list, or a question about where the list stands: a call that is accepted and gives this value, one that is refused with
-- this number, a power cut, a test
pub data Scene : Type 0 where
  gives refuses : ℕ → Call → Scene
  cut : Scene
  asks : (Point → Bool) → Scene

-- every call answers so, and every test holds, from a point of a store of n pages on
unfoldable pub plays : ℕ → Point → List Scene → Bool
plays n q [] = true
plays n q (gives v c ∷ es) = let on = plays n (after n q (call c)) es in accepts q c && eqb (value_of (perform q.store c).answer) v && on
plays n q (refuses x c ∷ es) = let on = plays n (after n q (call c)) es in eqb (answer_of (perform q.store c).answer) x && on
plays n q (cut ∷ es) = let on = plays n (after n q power) es in on
plays n q (asks f ∷ es) = let on = plays n q es in f q && on

-- by the book t knows o
abbrev pub knows : ℕ → ℕ → Point → Bool
knows t o q = q.book.known t o

-- record o is there, and its word f names x
abbrev pub names : ℕ → ℕ → ℕ → Point → Bool
names o f x q = occupied q.store.received o && eqb (word_of q.store.received o f) x

-- no line counted in the full pages since word f of o was written creates or frees x
abbrev pub leads : ℕ → ℕ → ℕ → Point → Bool
leads o f x q = unbroken (full_lines q.book) o f x

-- the book's lines have these kinds, newest first
unfoldable pub have_kinds : List ℕ → List Line → Bool
have_kinds [] [] = true
have_kinds [] (l ∷ ls) = false
have_kinds (k ∷ ks) [] = false
have_kinds (k ∷ ks) (l ∷ ls) = let on = have_kinds ks ls in eqb l.entry.kind k && on

abbrev pub lines_are : List ℕ → Point → Bool
lines_are ks q = have_kinds ks q.book.lines

-- a page with this map whose first record has these first two words
abbrev pub image : ℕ → ℕ → ℕ → List ℕ
image m w v = m ∷ w ∷ v ∷ replicate 126 0

-- client 0 gets all rights; its transaction 0 makes record 2 on page 0 and record 17 on page 1, which names it; the root names 17
abbrev pub making : List Scene
making =
    gives 0 (grant 0 0 2) ∷ gives 0 (grant 0 1 2) ∷ gives 1 (begin 0 0) ∷ gives 0 (lock_write 0 0) ∷ gives 0 (lock_write 0 1)
    ∷ gives 2 (create 0 2) ∷ gives 3 (create 0 17) ∷ gives 4 (set_word 0 17 0 2) ∷ gives 5 (set_word 0 1 0 17)
    ∷ gives 0 (flush 0 0 (image 3 17 0)) ∷ gives 0 (flush 0 1 (image 1 2 0)) ∷ gives 6 (commit 0) ∷ []

-- transaction 1 comes to know 17 by reading the root, and cuts the pointer to it; slot 2 is taken
abbrev pub cutting : List Scene
cutting =
    gives 7 (begin 1 0) ∷ gives 0 (lock_write 1 0) ∷ refuses 8 (create 1 2) ∷ asks (λ q. not (knows 1 17 q))
    ∷ gives 17 (read 1 1 (replicate 8 0)) ∷ asks (knows 1 17) ∷ asks (λ q. not (knows 1 2 q))
    ∷ gives 8 (set_word 1 1 0 0) ∷ gives 0 (flush 1 0 (image 3 0 0)) ∷ gives 9 (commit 1) ∷ asks (λ q. not (knows 1 17 q)) ∷ []

-- a pass frees 2; page 1 is locked for writing, so that 17 stays and still names 2
abbrev pub freeing : List Scene
freeing =
    gives 10 (begin 2 0) ∷ gives 0 (lock_write 2 1) ∷ asks (names 2 0 0)
    ∷ gives 0 pass ∷ gives 1 step ∷ gives 0 step ∷ gives 1 step ∷ gives 0 step
    ∷ asks (λ q. not (names 2 0 0 q)) ∷ asks (names 17 0 2) ∷ []

-- transaction 3 fills the slot again: the root's pointer leads to the new record, that of 17, which nothing reaches, to none
abbrev pub filling : List Scene
filling =
    gives 12 (begin 3 0) ∷ gives 0 (lock_write 3 0) ∷ gives 13 (create 3 2) ∷ gives 14 (set_word 3 1 1 2) ∷ gives 0 (flush 3 0 (image 3 0 2)) ∷ gives 15 (commit 3)
    ∷ asks (names 1 1 2) ∷ asks (leads 1 1 2) ∷ asks (names 17 0 2) ∷ asks (λ q. not (leads 17 0 2 q)) ∷ []

-- transaction 4 changes the root, which may not name itself (document 02, L8) but have its number as data, and does not end; transaction 2
-- ends, and its last record is not stable: seventeen are
abbrev pub forcing : List Scene
forcing =
    gives 16 (begin 4 0) ∷ gives 0 (lock_write 4 0) ∷ refuses 18 (set_word 4 1 2 1) ∷ gives 17 (set_word 4 1 4 1) ∷ gives 18 (commit 2)
    ∷ gives 1 force ∷ gives 2 force ∷ gives 3 force ∷ gives 4 force ∷ gives 5 force ∷ gives 6 force ∷ gives 7 force ∷ gives 8 force ∷ gives 9 force
    ∷ gives 10 force ∷ gives 11 force ∷ gives 12 force ∷ gives 13 force ∷ gives 14 force ∷ gives 15 force ∷ gives 16 force ∷ gives 17 force
    ∷ asks (lines_are (4 ∷ 3 ∷ 1 ∷ 4 ∷ 3 ∷ 2 ∷ 1 ∷ 7 ∷ 1 ∷ 4 ∷ 3 ∷ 1 ∷ 4 ∷ 3 ∷ 3 ∷ 2 ∷ 2 ∷ 1 ∷ [])) ∷ []

-- the power fails: the lines of 2 and of 4 are gone, and those of 0, 1 and 3 and the sweep's are left. The reopening stores page 0; the
-- power fails; the reopening runs from its start to its end, and gives nobody a right (document 02, L9)
abbrev pub reopening : List Scene
reopening =
    cut ∷ asks (lines_are (4 ∷ 3 ∷ 2 ∷ 1 ∷ 7 ∷ 4 ∷ 3 ∷ 1 ∷ 4 ∷ 3 ∷ 3 ∷ 2 ∷ 2 ∷ 1 ∷ []))
    ∷ gives 0 reopen ∷ gives 0 restep ∷ cut
    ∷ gives 0 reopen ∷ gives 0 restep ∷ gives 1 restep ∷ gives 2 restep
    ∷ asks (names 1 1 2) ∷ asks (names 1 4 0) ∷ asks (names 17 0 2) ∷ asks (leads 1 1 2) ∷ asks (λ q. not (leads 17 0 2 q))
    ∷ gives 1 (begin 0 0) ∷ refuses 19 (lock_read 0 0) ∷ []

-- the whole list
abbrev pub run : List Scene
run = making ++ cutting ++ freeing ++ filling ++ forcing ++ reopening

pub run_plays : plays 2 (start 2 24) run ≡ true
unfolding plays have_kinds book
run_plays = refl
