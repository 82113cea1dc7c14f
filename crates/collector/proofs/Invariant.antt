-- The invariant of a run, in groups; each group names only the parts of the state that it speaks of. K, R and C are the committed,
-- received and copied objects, KT and RT the tags of the first two; objects are numbered from 1 to n. Assumes nothing.
use Prim.Native.Nat.{ℕ, suc, ◌+◌, ◌*◌, ◌≤◌, ◌<◌}
use mathlib.Core.Path.{◌≡◌}
use mathlib.Core.Bool.{Bool, true, false}
use mathlib.Core.Logic.{◌⊎◌}
use Rattle.collector.specs.Objects.{Obj, Tag, is_ref, points, txns, page_of, Path, Whole}
use Rattle.collector.specs.State.{Colour, grey, black, is_white, Phase, idle, marking, sweeping, is_idle, St, objects, carried, holds, blacks}
use Rattle.collector.proofs.Safe.{Safe}

abbrev pub Unwritten : (ℕ → ℕ → Bool) → ℕ → Type 0
Unwritten wr p = (t : ℕ) → wr t p ≡ false

-- who has which page
pub record Exclusive (pages : ℕ) (act : ℕ → Bool) (rd wr : ℕ → ℕ → Bool) : Type 0 where
  -- transactions are 0 to 15: bounded searches see them all
  pub active : (t : ℕ) → act t ≡ true → t < txns
  -- locks are of active transactions (begin forgets what t knew) and, to write, of pages of the store (commit looks at these)
  pub reader : (t p : ℕ) → rd t p ≡ true → act t ≡ true
  pub writer : (t p : ℕ) → wr t p ≡ true → (act t ≡ true) × (p < pages)
  -- a page has one writer, and then no reader: another's end leaves the paths that t holds (commit)
  pub sole : (t u p : ℕ) → wr t p ≡ true → wr u p ≡ true → t ≡ u
  pub alone : (t u p : ℕ) → wr t p ≡ true → rd u p ≡ false

pub record Agreed (n : ℕ) (K R C : ℕ → Obj) (wr : ℕ → ℕ → Bool) : Type 0 where
  -- the root is an object of the store (pass)
  pub one : 1 ≤ n
  -- a page that nobody writes is the same in all areas (lockw, read, mark)
  pub free_r : (o : ℕ) → Unwritten wr (page_of o) → R o ≡ K o
  pub free_c : (o : ℕ) → Unwritten wr (page_of o) → C o ≡ K o
  -- calls free no committed object (create, commit)
  pub keeps : (o : ℕ) → (K o).occ ≡ true → (R o).occ ≡ true
  -- a copy's references name objects of the store: what marking turns grey is one
  pub range_c : (o x : ℕ) → points (C o) x ≡ true → x ≤ n

-- what a writer took out of its pages is in the PRT
pub record Pruned (n : ℕ) (K R C : ℕ → Obj) (wr prt dirty : ℕ → ℕ → Bool) : Type 0 where
  -- a committed reference is still received (commit) or copied (mark), or its target is in the writer's PRT
  pub kept_r : (t o x : ℕ) → wr t (page_of o) ≡ true → points (K o) x ≡ true → (points (R o) x ≡ true) ⊎ (prt t x ≡ true)
  pub kept_c : (t o x : ℕ) → wr t (page_of o) ≡ true → points (K o) x ≡ true → (points (C o) x ≡ true) ⊎ (prt t x ≡ true)
  -- PRT targets are objects of the store (pass)
  pub ranged : (t x : ℕ) → prt t x ≡ true → (1 ≤ x) × (x ≤ n)
  -- a page flushed since the last write is copied as received (commit)
  pub clean : (t o : ℕ) → wr t (page_of o) ≡ true → dirty t (page_of o) ≡ false → C o ≡ R o

-- o is an object that t created; going back may have freed it since
pub record Made (n : ℕ) (K : ℕ → Obj) (wr : ℕ → ℕ → Bool) (t o : ℕ) : Type 0 where
  pub own : wr t (page_of o) ≡ true
  pub out : (K o).occ ≡ false
  pub ranged : o ≤ n

-- what a transaction knows
pub record Known (n : ℕ) (K R : ℕ → Obj) (rd wr kn cot : ℕ → ℕ → Bool) : Type 0 where
  -- a received reference is a committed one, or its writer knows the target (read, commit)
  pub wrote : (t o x : ℕ) → wr t (page_of o) ≡ true → points (R o) x ≡ true → (points (K o) x ≡ true) ⊎ (kn t x ≡ true)
  -- what t knows it created and it is there, or it is reached in the committed state through pages that t holds: no other can cut the way
  -- (commit)
  pub knows : (t x : ℕ) → kn t x ≡ true → ((cot t x ≡ true) × ((R x).occ ≡ true)) ⊎ Path K (holds wr rd t) x
  -- a COT entry is of an object that its transaction created (create, commit, pass)
  pub made : (t o : ℕ) → cot t o ≡ true → Made n K wr t o

-- the colours of a running pass; made: objects with a COT entry
pub record Marked (ph : Phase) (col : ℕ → Colour) (K : ℕ → Obj) (prt : ℕ → ℕ → Bool) (made : ℕ → Bool) : Type 0 where
  -- the root is marked: paths start there (sweep)
  pub top : is_white (col 1) ≡ false
  -- a PRT target is marked: a committed reference that is gone from the copies is not needed (mark, commit)
  pub gone : ph ≡ marking → (t x : ℕ) → t < txns → prt t x ≡ true → is_white (col x) ≡ false
  -- what a black or a new object names is safe, so that all that is reached is (sweep)
  pub edges : (o x : ℕ) → (col o ≡ black) ⊎ (made o ≡ true) → points (K o) x ≡ true → Safe col made K x
  -- nothing is left to mark, so that safe objects are marked or have a COT entry (sweep)
  pub no_grey : ph ≡ sweeping → (o : ℕ) → col o ≡ grey → ⊥

-- the step number, which bounds the pass
pub record Counted (pages : ℕ) (ph : Phase) (at steps : ℕ) (col : ℕ → Colour) : Type 0 where
  -- only objects of the store have a colour other than white: the search for the lowest grey object sees them all (turn)
  pub ranged : (o : ℕ) → is_white (col o) ≡ false → (1 ≤ o) × (o ≤ 16 * pages)
  -- the page to sweep is one of the store
  pub page : at < pages
  -- a marking step blackens one object; the turn and each page swept are one step more
  pub scanned : ph ≡ marking → steps ≡ blacks (16 * pages) col
  pub turned : ph ≡ sweeping → steps ≡ suc (blacks (16 * pages) col + at)
  pub over : ph ≡ idle → steps ≡ 0

-- word f of object o on a page that t writes: it is as committed, holds nothing, or names an object that t knows, and that no line since
-- created or freed
pub data Tagged (K R : ℕ → Obj) (KT RT : ℕ → Tag) (kn : ℕ → ℕ → Bool) (t o f : ℕ) : Type 0 where
  before : (K o).occ ≡ true → is_ref (K o) f ≡ true → (R o).word f ≡ (K o).word f → (RT o).time f ≡ (KT o).time f → Tagged K R KT RT kn t o f
  empty : (R o).word f ≡ 0 → Tagged K R KT RT kn t o f
  stored : kn t ((R o).word f) ≡ true → (RT ((R o).word f)).born ≤ (RT o).time f → Tagged K R KT RT kn t o f

-- which lines the received objects are of
pub record Dated (K R : ℕ → Obj) (KT RT : ℕ → Tag) (wr kn : ℕ → ℕ → Bool) (now : ℕ) : Type 0 where
  -- a page that nobody writes has the committed tags (lockw)
  pub free_t : (o : ℕ) → Unwritten wr (page_of o) → RT o ≡ KT o
  -- a committed object is the received one, not one created anew in its slot (commit, abort)
  pub same_born : (x : ℕ) → (K x).occ ≡ true → (RT x).born ≡ (KT x).born
  -- no object is younger than the next line: that a known target is older than the write of it (set)
  pub young : (x : ℕ) → (R x).occ ≡ true → (RT x).born ≤ now
  -- each reference of a written page leads where it was written to (commit)
  pub tagged : (t o f : ℕ) → wr t (page_of o) ≡ true → (R o).occ ≡ true → is_ref (R o) f ≡ true → Tagged K R KT RT kn t o f

-- the groups of a state
abbrev pub TaggedIn : St → ℕ → ℕ → ℕ → Type 0
TaggedIn s t o f = Tagged s.pages.cmt s.pages.rec s.tags.cmt_tag s.tags.rec_tag s.tables.kn t o f

abbrev pub DatedIn : St → Type 0
DatedIn s = Dated s.pages.cmt s.pages.rec s.tags.cmt_tag s.tags.rec_tag s.locks.wr s.tables.kn s.tags.now

abbrev pub MarkedIn : St → Type 0
MarkedIn s = Marked s.pass.phase s.pass.col s.pages.cmt s.tables.prt (carried s.tables.cot s.tables.cot_f)

abbrev pub SafeIn : St → ℕ → Type 0
SafeIn s x = Safe s.pass.col (carried s.tables.cot s.tables.cot_f) s.pages.cmt x

pub record Inv (s : St) : Type 0 where
  pub whole : Whole (objects s) s.tags.now s.pages.cmt s.tags.cmt_tag
  pub exclusive : Exclusive s.count s.locks.act s.locks.rd s.locks.wr
  pub agreed : Agreed (objects s) s.pages.cmt s.pages.rec s.pages.cop s.locks.wr
  pub prune : Pruned (objects s) s.pages.cmt s.pages.rec s.pages.cop s.locks.wr s.tables.prt s.tables.dirty
  pub known : Known (objects s) s.pages.cmt s.pages.rec s.locks.rd s.locks.wr s.tables.kn s.tables.cot
  pub dated : DatedIn s
  pub marks : is_idle s.pass.phase ≡ false → MarkedIn s
  pub counted : Counted s.count s.pass.phase s.pass.at s.pass.steps s.pass.col

-- Equal parts: a call that only looks keeps the invariant.
pub same : (s s' : St) → s'.count ≡ s.count → s'.pages ≡ s.pages → s'.tags ≡ s.tags → s'.locks ≡ s.locks
    → s'.tables ≡ s.tables → s'.pass ≡ s.pass → Inv s → Inv s'
same s s' n p a l b k i = let e : s' ≡ s = λ j. record { count = n j; pages = p j; tags = a j; locks = l j; tables = b j; pass = k j } in rw e i
