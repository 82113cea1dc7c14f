-- Document 02, L3: marks inside a transaction, and going back to one. n is the number of pages. Assumes nothing.
use Rattle.std.specs.Prelude.{ℕ, zero, suc, ◌+◌, ◌-◌, Bool, true, not, ◌&&◌, List, [], ◌∷◌, length, set, take, eqb, ltb}
use Rattle.words.specs.Tests.{if, count}
use Rattle.words.specs.Spans.{over}
use Rattle.pages.specs.Geometry.{page_of}
use Rattle.records.specs.declared.Record.{Record}
use Rattle.records.specs.Records.{record_at, is_create}
use Rattle.records.specs.Effects.{undoing}
use Rattle.areas.specs.declared.Refusal.TheVariants.{OutOfRange, WrongState, LogFull, Unmarked}
use Rattle.areas.specs.Answers.{Test, need}
use Rattle.areas.specs.Areas.{Areas, Out, done, received_count, with_work, appended}
use Rattle.areas.specs.Layout.{mark_count, unflushed_at, known_at, marked_at, order_at, undoing_at}
use Rattle.areas.specs.Tables.{at, gain, lose, is_txn, is_active}
use Rattle.areas.specs.Entry.{called}
use Rattle.calls.specs.Room.{room_within}
use Rattle.calls.specs.Transactions.{changes_of}

-- 'A transaction may set marks 0 to 3'; 'a mark above 3 is 3'
abbrev pub is_mark : ℕ → Bool
is_mark m = ltb m mark_count

-- the place of t's mark m in the order of setting; 0: it is not set
abbrev pub order_of : List ℕ → ℕ → ℕ → ℕ → ℕ
order_of w n t m = at w (order_at n t m)

-- t's mark m is set
abbrev pub is_set : List ℕ → ℕ → ℕ → ℕ → Bool
is_set w n t m = not (eqb (order_of w n t m) 0)

-- how many of t's other marks are set
unfoldable pub others_set : List ℕ → ℕ → ℕ → ℕ → ℕ
others_set w n t m = count (λ j. not (eqb j m) && is_set w n t j) mark_count

-- a place in the order after place a of a mark that is set moves up by one
abbrev pub moved_up : ℕ → ℕ → ℕ
moved_up a b = if (not (eqb a 0) && ltb a b) (b - 1) b

-- 'set marks .. and set one again': the mark leaves its place, if it has one, and becomes the last
unfoldable pub set_last : List ℕ → ℕ → ℕ → ℕ → List ℕ
set_last w n t m = set (over (moved_up (order_of w n t m)) w (order_at n t 0) mark_count) (order_at n t m) (others_set w n t m + 1)

-- its refusals
unfoldable pub mark_tests : Areas → ℕ → ℕ → List Test
mark_tests s t m =
    need 3 OutOfRange (is_txn t && is_mark m)
    ∷ need 4 WrongState (is_active s.work t)
    ∷ []

-- the mark keeps how many creates and sets of t are left
unfoldable pub mark_set : Areas → ℕ → ℕ → ℕ → Areas
mark_set s n t m = with_work s (set (set_last s.work n t m) (marked_at n t m) (length (changes_of s n t)))

-- 'A transaction may set marks 0 to 3, and set one again'
unfoldable pub call_mark : Areas → ℕ → ℕ → Out
call_mark s t m = called true true s (λ n. mark_tests s t m) (λ n. done 0 (mark_set s n t m))

-- 'its creates and sets since that mark that are not yet undone': their numbers, newest first
abbrev pub since_mark : Areas → ℕ → ℕ → ℕ → List ℕ
since_mark s n t m = take (length (changes_of s n t) - at s.work (marked_at n t m)) (changes_of s n t)

-- 'Errors: 16, mark not set, after 4; a mark above 3 is 3'; 'the undoing uses the reserve'
unfoldable pub back_tests : Areas → ℕ → ℕ → ℕ → List Test
back_tests s n t m =
    need 3 OutOfRange (is_txn t && is_mark m)
    ∷ need 4 WrongState (is_active s.work t)
    ∷ need 16 Unmarked (is_set s.work n t m)
    ∷ need 11 LogFull (room_within s (length (since_mark s n t m)))
    ∷ []

-- 'Objects so uncreated are no longer known. Pages touched need flushing again.' The record that comes, number c, is noted as undoing r
unfoldable pub taken_back : List ℕ → ℕ → ℕ → ℕ → Record → List ℕ
taken_back w n t c r =
    let noted = set (gain w (unflushed_at n (page_of r.object)) t) (undoing_at n c) 1 in
    let forgot = lose noted (known_at n r.object) t in
    if (is_create r) forgot noted

-- 'Going back appends undoing records, newest first': of the records of log g with these numbers
unfoldable pub went_back : List ℕ → List ℕ → Areas → ℕ → ℕ → Areas
went_back g [] s n t = s
went_back g (i ∷ is) s n t =
    let r = record_at g i in
    went_back g is (with_work (appended s (undoing r)) (taken_back s.work n t (received_count s) r)) n t

-- 'drops marks set after this one and keeps it': the first k marks of t, where their place is after place a
unfoldable pub dropped : List ℕ → ℕ → ℕ → ℕ → ℕ → List ℕ
dropped w n t a zero = w
dropped w n t a (suc j) =
    let v = dropped w n t a j in let d = set (set v (marked_at n t j) 0) (order_at n t j) 0 in if (ltb a (order_of v n t j)) d v

-- 'PRT entries, COT entries and locks are kept, none are added'
unfoldable pub back_to : Areas → ℕ → ℕ → ℕ → Areas
back_to s n t m = let a = went_back s.log (since_mark s n t m) s n t in with_work a (dropped a.work n t (order_of a.work n t m) mark_count)

-- 'then goes back'
unfoldable pub call_back : Areas → ℕ → ℕ → Out
call_back s t m = called true true s (λ n. back_tests s n t m) (λ n. done 0 (back_to s n t m))
