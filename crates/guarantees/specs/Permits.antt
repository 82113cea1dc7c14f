-- Document 02, L9: a ledger of begins and of rights given, kept from the list alone. Assumes nothing.
use Rattle.std.specs.Prelude.{ℕ}
use Rattle.calls.specs.Calls.{Call, begin, commit, abort, grant, lock_read, lock_write, read, create, set_word, flush, force, store, empty, pass, step, reopen, restep, mark, back, look}
use Rattle.book.specs.Feeding.{put}
use Rattle.guarantees.specs.Ledgers.{Ledger}

-- as whom each transaction began last, and the rights given, by client and page
pub record Permits : Type 0 where
  pub client : ℕ → ℕ
  pub right : ℕ → ℕ → ℕ

-- 'Reopening gives all clients nothing.'
abbrev pub no_rights : Permits
no_rights = record { client = λ t. 0; right = λ c p. 0 }

-- after an accepted call
abbrev pub permitting : Permits → Call → Permits
permitting l (begin t c) = record { client = put l.client t c; right = l.right }
permitting l (commit t) = l
permitting l (abort t) = l
permitting l (grant c p r) = record { client = l.client; right = put l.right c (put (l.right c) p r) }
permitting l (lock_read t p) = l
permitting l (lock_write t p) = l
permitting l (read t o buffer) = l
permitting l (create t o) = l
permitting l (set_word t o f v) = l
permitting l (flush t p image) = l
permitting l force = l
permitting l (store p) = l
permitting l empty = l
permitting l pass = l
permitting l step = l
permitting l reopen = no_rights
permitting l restep = l
permitting l (mark t m) = l
permitting l (back t m) = l
permitting l (look q) = l

-- a cut leaves no right; the pages do not matter
abbrev pub permits : Ledger Permits
permits = record { first = no_rights; enters = λ l c r. permitting l c; drops = λ l. no_rights }

-- the right of t's client on page p
abbrev pub right_of : Permits → ℕ → ℕ → ℕ
right_of l t p = l.right (l.client t) p
