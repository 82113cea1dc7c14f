-- The book's own invariant, and the pages that running transactions write. This serves the proof of demand 3; its claim never mentions it.
-- Assumes nothing.
use Rattle.std.specs.Prelude.{ℕ, ◌*◌, ◌≤◌, ◌<◌, ◌≡◌, Bool, true, false, not, ◌&&◌, ◌||◌, List, [], ◌∷◌, length, eqb}
use Rattle.pages.specs.Geometry.{page_of, page_words}
use Rattle.pages.specs.Soundness.{area_sound}
use Rattle.records.specs.Records.{is_begin, is_end, is_sweep, txn_count}
use Rattle.records.specs.Soundness.{record_sound}
use Rattle.calls.specs.Calls.{Call, begin, commit, abort, grant, lock_read, lock_write, read, create, set_word, flush, force, store, empty, pass, step, reopen, restep, mark, back, look}
use Rattle.book.specs.Lines.{Line, is_left, has_end}
use Rattle.book.specs.Books.{Book, runs}

-- l is one of the lines
pub data In (l : Line) : List Line → Type 0 where
  here : {ls : List Line} → In l (l ∷ ls)
  later : {m : Line} {ls : List Line} → In l ls → In l (m ∷ ls)

abbrev pub Each : (Line → Type 0) → List Line → Type 0
Each P ls = (l : Line) → In l ls → P l

-- some line passes the test
unfoldable pub any_line : (Line → Bool) → List Line → Bool
any_line f [] = false
any_line f (l ∷ ls) = f l || any_line f ls

-- the records of the lines are sound by themselves in a store of n pages
abbrev pub SoundLines : ℕ → List Line → Type 0
SoundLines n ls = Each (λ l. record_sound n l.entry ≡ true) ls

-- the pages that a book of a store of n pages starts from
pub record Origin (n : ℕ) (a : List ℕ) : Type 0 where
  pub size : length a ≡ page_words * n
  pub sound : area_sound a n ≡ true

-- both, and of a book
pub record SoundFrom (n : ℕ) (a : List ℕ) (ls : List Line) : Type 0 where
  pub origin : Origin n a
  pub lines : SoundLines n ls

abbrev pub SoundBook : ℕ → Book → Type 0
SoundBook n b = SoundFrom n b.origin b.lines

-- transaction t runs
abbrev pub Runs : Book → ℕ → Type 0
Runs b t = b.running t ≡ 0 → ⊥

pub record LineOk (b : Book) (l : Line) : Type 0 where
  -- begin lines opened the own transactions
  pub owned : l.owner ≤ b.begun
  -- sweeps alone have none
  pub swept : is_sweep l.entry ≡ true → l.owner ≡ 0
  pub someone : is_sweep l.entry ≡ false → l.owner ≡ 0 → ⊥
  -- an uncreate is struck out; an end is not
  pub undoes : l.entry.kind ≡ 6 → l.struck ≡ true
  pub ends : is_end l.entry ≡ true → l.struck ≡ false
  -- the records of a running transaction name it
  pub names : (t : ℕ) → Runs b t → l.owner ≡ b.running t → l.entry.txn ≡ t
  -- what does not run has ended
  pub over : is_sweep l.entry ≡ false → runs b l.owner ≡ false → has_end l.owner b.lines ≡ true

-- since t's last begin, which is own transaction i's, its records are i's
pub data Since (t i : ℕ) : List Line → Type 0 where
  at_begin : {l : Line} {ls : List Line} → is_begin l.entry t ≡ true → l.owner ≡ i → Each (λ m. m.owner ≡ i → ⊥) ls → Since t i (l ∷ ls)
  newer : {l : Line} {ls : List Line} → is_begin l.entry t ≡ false → (is_sweep l.entry ≡ false → l.entry.txn ≡ t → l.owner ≡ i) → Since t i ls → Since t i (l ∷ ls)

pub record BookInv (b : Book) : Type 0 where
  pub distinct : (t u : ℕ) → Runs b t → b.running t ≡ b.running u → t ≡ u
  pub few : (t : ℕ) → txn_count ≤ t → b.running t ≡ 0
  pub young : (t : ℕ) → b.running t ≤ b.begun
  pub unended : (t : ℕ) → Runs b t → has_end (b.running t) b.lines ≡ false
  pub lines : Each (LineOk b) b.lines
  pub since : (t : ℕ) → Runs b t → Since t (b.running t) b.lines
  pub stable : b.stable ≤ length b.lines

-- a change of t's running own transaction that is left names object x
unfoldable pub openly : Book → ℕ → ℕ → Bool
openly b t x = not (eqb (b.running t) 0) && any_line (λ l. is_left (b.running t) l && eqb l.entry.object x) b.lines

-- running transactions change objects only on pages that they write, and a page has one writer
pub record Writers (b : Book) (wr : ℕ → ℕ → Bool) : Type 0 where
  pub writes : (t x : ℕ) → openly b t x ≡ true → wr t (page_of x) ≡ true
  pub one : (t u p : ℕ) → wr t p ≡ true → wr u p ≡ true → t ≡ u

-- what an accepted call finds in the book
abbrev pub Expects : Book → Call → Type 0
Expects b (begin t c) = (t < txn_count) × (b.running t ≡ 0)
Expects b (commit t) = Runs b t
Expects b (abort t) = Runs b t
Expects b (grant c p r) = Unit
Expects b (lock_read t p) = Unit
Expects b (lock_write t p) = Unit
Expects b (read t o buffer) = Unit
Expects b (create t o) = Runs b t
Expects b (set_word t o f v) = Runs b t
Expects b (flush t p image) = Unit
Expects b force = b.stable < length b.lines
Expects b (store p) = Unit
Expects b empty = Unit
Expects b pass = Unit
Expects b step = Unit
Expects b reopen = Unit
Expects b restep = Unit
Expects b (mark t m) = Unit
Expects b (back t m) = Runs b t
Expects b (look q) = Unit
