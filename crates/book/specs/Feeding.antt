-- Document 01, 'The book': 'It .. is fed the calls, whether each was accepted, the cuts, and the slots that each pass step clears in the
-- received maps.' Nothing else of the store is looked at. Assumes nothing.
use Rattle.std.specs.Prelude.{ℕ, zero, suc, ◌+◌, ◌-◌, Bool, false, not, ◌&&◌, ◌||◌, List, ◌∷◌, eqb, ltb}
use Rattle.words.specs.Tests.{if}
use Rattle.words.specs.Bits.{map_of}
use Rattle.pages.specs.Geometry.{root}
use Rattle.pages.specs.Objects.{taken, word_of}
use Rattle.reach.specs.Reaching.{refers_to}
use Rattle.records.specs.declared.Record.{Record}
use Rattle.records.specs.Records.{begin_of, create_of, set_of, commit_of, aborted_of, sweep_of}
use Rattle.calls.specs.Calls.{Call, begin, commit, abort, grant, lock_read, lock_write, read, create, set_word, flush, force, store, empty, pass, step, reopen, restep, mark, back, look}
use Rattle.book.specs.Lines.{Line, line, left, struck_newest, undoing_newest, undone_lines, newest_creates}
use Rattle.book.specs.Books.{Stage, opened, awaiting, storing, Book, full_pages, stopped}

-- a function of numbers with another value at t
abbrev pub put : {A : Type 0} → (ℕ → A) → ℕ → A → ℕ → A
put f t v u = if (eqb u t) v (f u)

-- the book with other lines
abbrev pub with_lines : Book → List Line → Book
with_lines b ls = record { origin = b.origin; lines = ls; stable = b.stable; begun = b.begun; running = b.running; known = b.known; marked = b.marked; stage = b.stage }

-- a line of the transaction that t runs
abbrev pub adds : Book → ℕ → Record → Book
adds b t r = with_lines b (line r (b.running t) ∷ b.lines)

-- 't knows ..' the objects that the test names too
abbrev pub learns : Book → ℕ → (ℕ → Bool) → Book
learns b t f = record { origin = b.origin; lines = b.lines; stable = b.stable; begun = b.begun; running = b.running; known = put b.known t (λ o. b.known t o || f o); marked = b.marked; stage = b.stage }

-- 'each begin line opens a transaction of its own'; 'At begin t knows the root only.'
abbrev pub begins : Book → ℕ → Book
begins b t = record {
  origin = b.origin;
  lines = line (begin_of t) (b.begun + 1) ∷ b.lines;
  stable = b.stable;
  begun = b.begun + 1;
  running = put b.running t (b.begun + 1);
  known = put b.known t (eqb root);
  marked = b.marked;
  stage = b.stage;
}

-- the end of the transaction that t runs
abbrev pub ends : Book → ℕ → Book
ends b t = record { origin = b.origin; lines = b.lines; stable = b.stable; begun = b.begun; running = put b.running t 0; known = put b.known t (λ o. false); marked = b.marked; stage = b.stage }

-- the slots of page p that a pass step cleared: set in the received map before it and not after it
unfoldable pub cleared_slots : List ℕ → List ℕ → ℕ → ℕ
cleared_slots before after p = map_of (λ s. taken before p s && not (taken after p s)) 16

-- a sweep line for each of the first k pages of which slots were cleared
unfoldable pub sweep_lines : List ℕ → List ℕ → List Line → ℕ → List Line
sweep_lines before after ls zero = ls
sweep_lines before after ls (suc p) =
    let on = sweep_lines before after ls p in let m = cleared_slots before after p in if (eqb m 0) on (line (sweep_of p m) 0 ∷ on)

-- 'Force makes the next line stable, struck or not.'
abbrev pub forced : Book → Book
forced b = record { origin = b.origin; lines = b.lines; stable = b.stable + 1; begun = b.begun; running = b.running; known = b.known; marked = b.marked; stage = b.stage }

-- 'Then P steps store one page each, page 0 first, and one more step empties the log.'
abbrev pub stepped : ℕ → Stage → Stage
stepped n opened = opened
stepped n awaiting = awaiting
stepped n (storing k) = if (ltb k n) (storing (k + 1)) opened

-- the book at another stage of a reopening
abbrev pub at_stage : Book → Stage → Book
at_stage b g = record { origin = b.origin; lines = b.lines; stable = b.stable; begun = b.begun; running = b.running; known = b.known; marked = b.marked; stage = g }

-- document 02, L3: t sets mark m
abbrev pub marks : Book → ℕ → ℕ → Book
marks b t m = record {
  origin = b.origin;
  lines = b.lines;
  stable = b.stable;
  begun = b.begun;
  running = b.running;
  known = b.known;
  marked = put b.marked t (put (b.marked t) m (left (b.running t) b.lines));
  stage = b.stage;
}

-- 'Going back appends undoing records, newest first': one of them, which 'strikes out itself and t's newest create or set left'.
-- 'Objects so uncreated are no longer known.'
abbrev pub undoes : Book → ℕ → Book
undoes b t = record {
  origin = b.origin;
  lines = undoing_newest (b.running t) b.lines (struck_newest (b.running t) b.lines);
  stable = b.stable;
  begun = b.begun;
  running = b.running;
  known = put b.known t (λ o. b.known t o && not (newest_creates (b.running t) b.lines o));
  marked = b.marked;
  stage = b.stage;
}

-- k of them
unfoldable pub goes_back : ℕ → Book → ℕ → Book
goes_back zero b t = b
goes_back (suc k) b t = goes_back k (undoes b t) t

-- an accepted call in a store of n pages; before, after: the received pages around it, of which only a pass step's cleared slots are read
unfoldable pub fed : ℕ → Book → Call → List ℕ → List ℕ → Book
fed n b (begin t c) before after = begins b t
fed n b (commit t) before after = ends (adds b t (commit_of t)) t
fed n b (abort t) before after =
    let i = b.running t in ends (adds (with_lines b (undone_lines i (left i b.lines) b.lines)) t (aborted_of t)) t
fed n b (grant c p r) before after = b
fed n b (lock_read t p) before after = b
fed n b (lock_write t p) before after = b
fed n b (read t o buffer) before after = learns b t (refers_to (full_pages b) o)
fed n b (create t o) before after = learns (adds b t (create_of t o)) t (eqb o)
fed n b (set_word t o f v) before after = adds b t (set_of t o f (word_of (full_pages b) o f) v)
fed n b (flush t p image) before after = b
fed n b force before after = forced b
fed n b (store p) before after = b
fed n b empty before after = b
fed n b pass before after = b
fed n b step before after = with_lines b (sweep_lines before after b.lines n)
fed n b reopen before after = stopped (storing 0) b
fed n b restep before after = at_stage b (stepped n b.stage)
fed n b (mark t m) before after = marks b t m
fed n b (back t m) before after = goes_back (left (b.running t) b.lines - b.marked t m) b t
fed n b (look q) before after = b
