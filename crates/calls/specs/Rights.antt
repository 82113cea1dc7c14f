-- Document 02, L9: clients and their rights. n is the number of pages. Assumes nothing.
use Rattle.std.specs.Prelude.{ℕ, Bool, true, not, ◌&&◌, List, [], ◌∷◌, set, eqb, leb, ltb}
use Rattle.words.specs.Tests.{any}
use Rattle.records.specs.Records.{txn_count}
use Rattle.areas.specs.declared.Refusal.TheVariants.{OutOfRange, WrongState}
use Rattle.areas.specs.Answers.{Test, need}
use Rattle.areas.specs.Areas.{Areas, Out, done, with_work}
use Rattle.areas.specs.Layout.{client_count, client_at, right_at, writing}
use Rattle.areas.specs.Tables.{at, is_active}
use Rattle.areas.specs.Entry.{called}

-- 'Each begin names a client, 0 to 7.'
abbrev pub is_client : ℕ → Bool
is_client c = ltb c client_count

-- '0 nothing, 1 reading, or 2 reading and writing'
abbrev pub is_right : ℕ → Bool
is_right r = leb r writing

-- as whom t began
abbrev pub client_of : List ℕ → ℕ → ℕ → ℕ
client_of w n t = at w (client_at n t)

-- 'A table gives each client, for each page': the right of t's client on page p is enough
unfoldable pub may_lock : List ℕ → ℕ → ℕ → ℕ → ℕ → Bool
may_lock w n t p right = leb right (at w (right_at n (client_of w n t) p))

-- some active transaction is client c's
unfoldable pub has_active : List ℕ → ℕ → ℕ → Bool
has_active w n c = any (λ t. is_active w t && eqb (client_of w n t) c) txn_count

-- 'a client or right out of range is 3, a change for a client with an active transaction is 4'
unfoldable pub grant_tests : Areas → ℕ → ℕ → ℕ → ℕ → List Test
grant_tests s n c p r =
    need 3 OutOfRange (is_client c && ltb p n && is_right r)
    ∷ need 4 WrongState (not (has_active s.work n c))
    ∷ []

-- the entry of client c and page p
unfoldable pub right_given : List ℕ → ℕ → ℕ → ℕ → ℕ → List ℕ
right_given w n c p r = set w (right_at n c p) r

-- 'a call changes one entry, only for a client without an active transaction'
unfoldable pub call_grant : Areas → ℕ → ℕ → ℕ → Out
call_grant s c p r = called true true s (λ n. grant_tests s n c p r) (λ n. done 0 (with_work s (right_given s.work n c p r)))
