-- Document 02, L8, as statements of every store, whatever its words: 'A set that writes an object's own number into one of its reference
-- words is refused', with 18, 'after 7'; and no other set changes. Assumes nothing.
use Rattle.std.specs.Prelude.{ℕ, ◌≡◌, true, not, ◌&&◌, ◌||◌, List, [], ◌∷◌, eqb, ltb, Ok, Err}
use Rattle.words.specs.Tests.{if}
use Rattle.pages.specs.Geometry.{slot_words, page_of, is_object, is_ref}
use Rattle.areas.specs.declared.Refusal.TheVariants.{OutOfRange, WrongState, NotLocked, Unknown, LogFull, SelfReference}
use Rattle.areas.specs.Answers.{Test, need, number_of, Answer}
use Rattle.areas.specs.Areas.{Areas, Out, done, received_count}
use Rattle.areas.specs.Tables.{is_txn, is_active, can_write, knows}
use Rattle.areas.specs.Entry.{called}
use Rattle.calls.specs.Room.{change_room, room_beyond}
use Rattle.calls.specs.Objects.{word_set}
use Rattle.calls.specs.Calls.{perform, set_word}

-- document 01's tests of a set: 'Set a word of a known object under the write lock. A reference written must be 0 or known'
abbrev pub tests_before : Areas → ℕ → ℕ → ℕ → ℕ → ℕ → List Test
tests_before s n t o f v =
    need 3 OutOfRange (is_txn t && is_object n o && ltb f slot_words)
    ∷ need 4 WrongState (is_active s.work t)
    ∷ need 5 NotLocked (can_write s.work n t (page_of o))
    ∷ need 7 Unknown (knows s.work n t o && (not (is_ref s.received o f) || eqb v 0 || knows s.work n t v))
    ∷ need 11 LogFull (room_beyond s n change_room)
    ∷ []

-- its set, answer and every word
abbrev pub set_before : Areas → ℕ → ℕ → ℕ → ℕ → Out
set_before s t o f v = called true true s (λ n. tests_before s n t o f v) (λ n. let a = word_set s n t o f v in done (received_count a) a)

-- 'writes an object's own number into one of its reference words'
pub record WritesOwn (s : Areas) (o f v : ℕ) : Type 0 where
  pub reference : is_ref s.received o f ≡ true
  pub own : v ≡ o

-- every other set is document 01's
abbrev pub SetsElseAsBefore : Type 0
SetsElseAsBefore = (s : Areas) (t o f v : ℕ) → (WritesOwn s o f v → ⊥) → perform s (set_word t o f v) ≡ set_before s t o f v

-- '18 .. after 7': in place of a result, and of a refusal for room; a refusal of a lower number stays
abbrev pub instead_of : Answer → Answer
instead_of (Ok v) = Err SelfReference
instead_of (Err x) = if (eqb (number_of x) 11) (Err SelfReference) (Err x)

-- 'is refused', and changes nothing
abbrev pub OwnSetsRefused : Type 0
OwnSetsRefused = (s : Areas) (t o f v : ℕ) → WritesOwn s o f v → perform s (set_word t o f v) ≡ record { answer = instead_of (set_before s t o f v).answer; after = s }
