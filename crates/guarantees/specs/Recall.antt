-- Document 02, L6: what a reader saw it sees again, though the page was swept under its lock. Over lists, by a ledger of what reads showed.
-- Assumes nothing.
use Rattle.std.specs.Prelude.{ℕ, ◌<◌, ◌≡◌, Bool, true, false, not, ◌&&◌, ◌||◌, List, length, get_or, eqb, Ok}
use Rattle.words.specs.Tests.{if}
use Rattle.pages.specs.Geometry.{slot_words}
use Rattle.pages.specs.Objects.{word_of}
use Rattle.calls.specs.Objects.{buffer_after}
use Rattle.calls.specs.Calls.{Call, perform, begin, commit, abort, grant, lock_read, lock_write, read, create, set_word, flush, force, store, empty, pass, step, reopen, restep, mark, back, look}
use Rattle.book.specs.Demand.{Point}
use Rattle.guarantees.specs.Ledgers.{Ledger, AlwaysKept}

-- by transaction and object, whether t has read or created it, and the words that it then saw, with its own sets since
pub record Recalled : Type 0 where
  pub has : ℕ → ℕ → Bool
  pub word : ℕ → ℕ → ℕ → ℕ

-- nobody has read anything
abbrev pub unread : Recalled
unread = record { has = λ t x. false; word = λ t x f. 0 }

-- t and x are these
abbrev pub these : ℕ → ℕ → ℕ → ℕ → Bool
these t x u y = eqb u t && eqb y x

-- t sees the words w of x
abbrev pub sees : Recalled → ℕ → ℕ → (ℕ → ℕ) → Recalled
sees l t x w = record { has = λ u y. these t x u y || l.has u y; word = λ u y f. if (these t x u y) (w f) (l.word u y f) }

-- t writes v to word f of x
abbrev pub writes : Recalled → ℕ → ℕ → ℕ → ℕ → Recalled
writes l t x f v = record { has = l.has; word = λ u y g. if (these t x u y && eqb g f) v (l.word u y g) }

-- t begins, ends, or goes back
abbrev pub forgets : Recalled → ℕ → Recalled
forgets l t = record { has = λ u y. not (eqb u t) && l.has u y; word = l.word }

-- an accepted call, which finds the received pages r: 'Read .. gives its eight received words'; create: 'words 0'
abbrev pub recalling : Recalled → Call → List ℕ → Recalled
recalling l (begin t c) r = forgets l t
recalling l (commit t) r = forgets l t
recalling l (abort t) r = forgets l t
recalling l (grant c p x) r = l
recalling l (lock_read t p) r = l
recalling l (lock_write t p) r = l
recalling l (read t o buffer) r = sees l t o (word_of r o)
recalling l (create t o) r = sees l t o (λ f. 0)
recalling l (set_word t o f v) r = writes l t o f v
recalling l (flush t p image) r = l
recalling l force r = l
recalling l (store p) r = l
recalling l empty r = l
recalling l pass r = l
recalling l step r = l
recalling l reopen r = unread
recalling l restep r = l
recalling l (mark t m) r = l
recalling l (back t m) r = forgets l t
recalling l (look q) r = l

-- a cut leaves no transaction
abbrev pub recollection : Ledger Recalled
recollection = record { first = unread; enters = recalling; drops = λ l. unread }

-- what t saw of an object it sees again, whatever others did meanwhile and whatever was swept under its lock
pub record SeenAgain (q : Point) (l : Recalled) : Type 0 where
  -- it is let read the object, and told word 0
  pub answered : (t x : ℕ) (buffer : List ℕ) → length buffer ≡ slot_words → l.has t x ≡ true → (perform q.store (read t x buffer)).answer ≡ Ok (l.word t x 0)
  -- and shown the words
  pub shown : (t x : ℕ) (buffer : List ℕ) → length buffer ≡ slot_words → l.has t x ≡ true → (f : ℕ) → f < slot_words → get_or (buffer_after q.store t x buffer) f 0 ≡ l.word t x f

abbrev pub AlwaysSeenAgain : Type 0
AlwaysSeenAgain = AlwaysKept Recalled recollection SeenAgain
