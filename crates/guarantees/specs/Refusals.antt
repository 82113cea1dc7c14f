-- Document 01, 'Refusal table': the refusals that no calls and cuts lead to. Assumes nothing.
use Rattle.std.specs.Prelude.{ℕ, ◌≡◌, Bool, true, length, eqb, Err}
use Rattle.pages.specs.Geometry.{page_words, slot_words}
use Rattle.areas.specs.declared.Refusal.TheVariants.{Malformed, LogFull}
use Rattle.calls.specs.Calls.{Call, perform, begin, commit, abort, grant, lock_read, lock_write, read, create, set_word, flush, force, store, empty, pass, step, reopen, restep, mark, back, look}
use Rattle.book.specs.Demand.{Point, accepts}
use Rattle.guarantees.specs.Points.{Always}

-- 14, 'reopening finds something unsound': never, after a cut or elsewhere. 'Reopening may be called at any time, again too.'
abbrev pub Reopenable : Point → Type 0
Reopenable q = accepts q reopen ≡ true

-- at every point of every list, reopen is accepted
abbrev pub NeverUnsound : Type 0
NeverUnsound = Always Reopenable

-- 11, 'no log room (for commit and abort only in a state that no calls lead to)'
pub record Endable (q : Point) : Type 0 where
  pub commits : (t : ℕ) → (perform q.store (commit t)).answer ≡ Err LogFull → ⊥
  pub aborts : (t : ℕ) → (perform q.store (abort t)).answer ≡ Err LogFull → ⊥
  -- document 02, L3, of going back: 'the undoing uses the reserve'
  pub backs : (t m : ℕ) → (perform q.store (back t m)).answer ≡ Err LogFull → ⊥

-- at every point of every list, commit, abort and going back have room
abbrev pub RoomToEnd : Type 0
RoomToEnd = Always Endable

-- the lengths of a call's own buffers are right
abbrev pub own_fits : Call → Bool
own_fits (begin t c) = true
own_fits (commit t) = true
own_fits (abort t) = true
own_fits (grant c p r) = true
own_fits (lock_read t p) = true
own_fits (lock_write t p) = true
own_fits (read t o buffer) = eqb (length buffer) slot_words
own_fits (create t o) = true
own_fits (set_word t o f v) = true
own_fits (flush t p image) = eqb (length image) page_words
own_fits force = true
own_fits (store p) = true
own_fits empty = true
own_fits pass = true
own_fits step = true
own_fits reopen = true
own_fits restep = true
own_fits (mark t m) = true
own_fits (back t m) = true
own_fits (look q) = q.own

-- 1, 'a length differs, or a working word is out of range': never but for the call's own buffers
abbrev pub WellFormed : Point → Type 0
WellFormed q = (c : Call) → own_fits c ≡ true → (perform q.store c).answer ≡ Err Malformed → ⊥

-- at every point of every list
abbrev pub NeverMalformed : Type 0
NeverMalformed = Always WellFormed
