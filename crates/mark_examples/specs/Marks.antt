-- Document 02, L3: marks inside a long job, what going back to one appends, keeps and drops, and what it leaves to later calls, each
-- sentence by an example that is computed. Assumes nothing.
use Rattle.std.specs.Prelude.{ℕ, ◌-◌, ◌*◌, ◌≡◌, refl, Bool, true, not, ◌&&◌, List, [], ◌∷◌, ◌++◌, take, drop, replicate, eqb}
use Rattle.words.specs.Tests.{all}
use Rattle.pages.specs.Geometry.{slot_words, page_words}
use Rattle.pages.specs.Objects.{written}
use Rattle.records.specs.declared.Record.{Record}
use Rattle.records.specs.Records.{record_words, set_of, uncreate_of, aborted_of}
use Rattle.records.specs.Changes.{reserved}
use Rattle.areas.specs.Answers.{answer_of, value_of}
use Rattle.areas.specs.Areas.{Areas, received_count}
use Rattle.areas.specs.Layout.{single_words, active_at, unflushed_from, pruned_from, colours_from, pruned_at, created_at, undoing_from}
use Rattle.areas.specs.Tables.{at, has, undoes}
use Rattle.areas.specs.Entry.{pages, records}
use Rattle.calls.specs.Formatting.{cut}
use Rattle.calls.specs.Calls.{Call, begin, commit, abort, lock_write, read, create, set_word, flush, force, store, empty, reopen, mark, back, perform}
use Rattle.computing.specs.Calls.{calls}
use Rattle.computing.specs.Stores.{same_words, same_areas, refused_by, after, allowed}

-- the words of these records
unfoldable pub words_of : List Record → List ℕ
words_of [] = []
words_of (r ∷ rs) = r.kind ∷ r.txn ∷ r.object ∷ r.field ∷ r.old ∷ r.new ∷ words_of rs

-- the received records after the first c are these
unfoldable pub logged : ℕ → List Record → Areas → Bool
logged c rs s = same_words (take (record_words * (received_count s - c)) (drop (record_words * c) s.log)) (words_of rs)

-- so many records are received, and so many reserved
unfoldable pub room : ℕ → ℕ → Areas → Bool
room c k s =
    eqb (received_count s) c && eqb (reserved (undoes s.work (pages s)) s.log (received_count s) (at s.work active_at)) k

-- the call is accepted with this value, and then the test holds
unfoldable pub accepts : ℕ → Call → (Areas → Bool) → Areas → Bool
accepts v c f s = let o = perform s c in let on = f o.after in eqb (answer_of o.answer) 0 && eqb (value_of o.answer) v && on

-- the call is refused with this number, and every word stays
abbrev pub refuses : ℕ → Call → Areas → Bool
refuses x c s = refused_by x 0 s c

-- the working words from word a up to word b
abbrev pub between : ℕ → ℕ → Areas → List ℕ
between a b s = take (b - a) (drop a s.work)

-- locks, PRT and COT are those of another store
unfoldable pub keeps : Areas → Areas → Bool
keeps s a =
    let n = pages s in
    same_words (between single_words (unflushed_from n) s) (between single_words (unflushed_from n) a)
    && same_words (between (pruned_from n) (colours_from n) s) (between (pruned_from n) (colours_from n) a)

-- one page, and a log with room for what follows
abbrev pub fresh : Areas
fresh = allowed 1 32

-- page 0 with this map, whose lowest bit is object 1, and no word written
abbrev pub blank : ℕ → List ℕ
blank map = map ∷ replicate (page_words - 1) 0

-- a crew tries a layout: object 2 stays, the rest comes after mark 0, and the last set after mark 1
abbrev pub tried : List Call
tried =
    begin 0 0 ∷ lock_write 0 0 ∷ create 0 2 ∷ mark 0 0 ∷ set_word 0 1 0 2 ∷ create 0 3 ∷ set_word 0 3 4 7 ∷ mark 0 1 ∷ set_word 0 1 1 3 ∷ []

-- page 0 with the layout
abbrev pub layout : List ℕ
layout = written (written (written (blank 7) 1 0 2) 1 1 3) 3 4 7

-- page 0 as it was at mark 0
abbrev pub as_marked : List ℕ
as_marked = blank 3

-- 'Going back appends undoing records, newest first, for its creates and sets since that mark'; its value is 0
pub newest_first : after tried (accepts 0 (back 0 0) (logged 6 (set_of 0 1 1 3 0 ∷ set_of 0 3 4 7 0 ∷ uncreate_of 0 3 ∷ set_of 0 1 0 2 0 ∷ []))) fresh ≡ true
unfolding logged words_of accepts same_words after calls
newest_first = refl

-- '.. that are not yet undone': the set after mark 1 is undone once, and going back to mark 0 twice appends nothing the second time
pub not_yet_undone : after (tried ++ (back 0 1 ∷ back 0 0 ∷ back 0 0 ∷ [])) (logged 6 (set_of 0 1 1 3 0 ∷ set_of 0 3 4 7 0 ∷ uncreate_of 0 3 ∷ set_of 0 1 0 2 0 ∷ [])) fresh ≡ true
unfolding logged words_of same_words after calls
not_yet_undone = refl

-- 'its': what another transaction wrote since stays
pub its_own : after (begin 0 0 ∷ begin 1 0 ∷ lock_write 0 0 ∷ lock_write 1 1 ∷ mark 0 0 ∷ set_word 0 1 4 7 ∷ create 1 17 ∷ back 0 0 ∷ set_word 1 17 4 7 ∷ abort 1 ∷ [])
    (logged 4 (set_of 0 1 4 7 0 ∷ set_of 1 17 4 0 7 ∷ set_of 1 17 4 7 0 ∷ uncreate_of 1 17 ∷ aborted_of 1 ∷ [])) (allowed 2 32) ≡ true
unfolding logged words_of same_words after calls
its_own = refl

-- 'drops marks set after this one and keeps it'
pub later_dropped : after (tried ++ (back 0 0 ∷ [])) (λ s. refuses 16 (back 0 1) s && accepts 0 (back 0 0) (room 10 2) s) fresh ≡ true
unfolding accepts refused_by room same_words same_areas after calls
later_dropped = refl

-- 'and set one again': it becomes the last, though no record stands between the marks
pub set_again : after (begin 0 0 ∷ mark 0 0 ∷ mark 0 1 ∷ mark 0 0 ∷ back 0 1 ∷ []) (refuses 16 (back 0 0)) fresh ≡ true
unfolding refused_by same_words same_areas after calls
set_again = refl

-- 'they end with it': the next transaction of that number has none
pub end_with_it : after (begin 0 0 ∷ mark 0 0 ∷ commit 0 ∷ begin 0 0 ∷ []) (refuses 16 (back 0 0)) fresh ≡ true
unfolding refused_by same_words same_areas after calls
end_with_it = refl

-- 'Errors: 16, mark not set, after 4; a mark above 3 is 3': nothing is active in the first two lines, then 0 is, without a mark
pub refusals : (refuses 3 (mark 0 4) fresh && refuses 3 (mark 16 0) fresh && refuses 4 (mark 0 3) fresh
    && refuses 3 (back 0 4) fresh && refuses 3 (back 16 0) fresh && refuses 4 (back 0 3) fresh
    && after (begin 0 0 ∷ []) (λ s. refuses 3 (back 0 4) s && refuses 16 (back 0 3) s && refuses 4 (back 1 3) s) fresh
    && after (reopen ∷ []) (λ s. refuses 2 (mark 16 4) s && refuses 2 (back 16 4) s) fresh) ≡ true
unfolding refused_by same_words same_areas after calls
refusals = refl

-- 'Objects so uncreated are no longer known': not read, not set, not referred to; the one created before the mark still is
pub unknown : after (tried ++ (back 0 0 ∷ [])) (λ s.
    refuses 7 (read 0 3 (replicate slot_words 0)) s && refuses 7 (set_word 0 3 4 7) s && refuses 7 (set_word 0 1 0 3) s
    && accepts 11 (set_word 0 1 0 2) (room 11 3) s) fresh ≡ true
unfolding accepts refused_by room same_words same_areas after calls
unknown = refl

-- 'Pages touched need flushing again': the copy keeps the layout until then, and the page is received as it was at the mark
pub flushed_again : after (tried ++ (flush 0 0 layout ∷ back 0 0 ∷ [])) (λ s.
    same_words s.copies layout && refuses 10 (commit 0) s && refuses 9 (flush 0 0 layout) s
    && accepts 0 (flush 0 0 as_marked) (accepts 11 (commit 0) (room 11 0)) s) fresh ≡ true
unfolding accepts refused_by room same_words same_areas after calls
flushed_again = refl

-- 'The reserve counts only records not undone': the undoing takes its room out of the reserve
pub reserve : after tried (λ s. room 6 6 s && accepts 0 (back 0 0) (room 10 2) s) fresh ≡ true
unfolding accepts room same_words after calls
reserve = refl

-- 'and an abort undoes only those'
pub abort_after : after (tried ++ (back 0 0 ∷ create 0 3 ∷ [])) (accepts 14 (abort 0) (logged 11 (uncreate_of 0 3 ∷ uncreate_of 0 2 ∷ aborted_of 0 ∷ []))) fresh ≡ true
unfolding logged words_of accepts same_words after calls
abort_after = refl

-- a word set back by hand is no undoing, though its record has the same words: an abort undoes both sets
pub by_hand : after (begin 0 0 ∷ lock_write 0 0 ∷ set_word 0 1 4 7 ∷ set_word 0 1 4 0 ∷ []) (λ s.
    room 3 3 s && accepts 6 (abort 0) (logged 3 (set_of 0 1 4 0 7 ∷ set_of 0 1 4 7 0 ∷ aborted_of 0 ∷ [])) s) fresh ≡ true
unfolding logged words_of accepts room same_words after calls
by_hand = refl

-- 'the undoing uses the reserve': no set fits a full log, going back does, and the end too
pub full_log : after (begin 0 0 ∷ lock_write 0 0 ∷ mark 0 0 ∷ set_word 0 1 4 7 ∷ set_word 0 1 5 7 ∷ set_word 0 1 6 7 ∷ [])
    (λ s. refuses 11 (set_word 0 1 7 7) s && accepts 0 (back 0 0) (λ a. refuses 11 (set_word 0 1 7 7) a && accepts 8 (abort 0) (room 8 0) a) s) (allowed 1 8) ≡ true
unfolding accepts refused_by room same_words same_areas after calls
full_log = refl

-- 'PRT entries, COT entries and locks are kept, none are added': object 3 keeps its COT entry, the reference to 2 taken away before keeps its
-- PRT entry, and the one to 3 that the undoing takes away makes none
pub kept : after (tried ++ (set_word 0 1 0 0 ∷ [])) (λ s. accepts 0 (back 0 0) (λ a.
    keeps s a && has a.work (created_at 1 3) 0 && has a.work (pruned_at 1 2) 0 && not (has a.work (pruned_at 1 3) 0)) s) fresh ≡ true
unfolding accepts keeps same_words after calls
kept = refl

-- 'A cut that keeps only part of that undoing still undoes the whole transaction': the page is stored with the layout, and a cut keeps
-- none, some or all of the undoing records
pub cut_between : all (λ k. after (tried ++ (flush 0 0 layout ∷ replicate 6 force ++ (store 0 ∷ back 0 0 ∷ replicate k force)))
    (λ s. after (reopen ∷ []) (λ a. same_words a.received (blank 1)) (cut s)) fresh) 5 ≡ true
unfolding same_words after calls
cut_between = refl

-- a log that holds an undoing record, emptied: the record that next comes to its place is no undoing, and an abort undoes it
pub emptied_log : after (begin 0 0 ∷ lock_write 0 0 ∷ mark 0 0 ∷ set_word 0 1 4 7 ∷ back 0 0 ∷ flush 0 0 (blank 1) ∷ commit 0 ∷ replicate 4 force
    ++ (empty ∷ begin 0 0 ∷ lock_write 0 0 ∷ set_word 0 1 4 7 ∷ set_word 0 1 5 8 ∷ abort 0 ∷ []))
    (λ s. logged 3 (set_of 0 1 5 8 0 ∷ set_of 0 1 4 7 0 ∷ aborted_of 0 ∷ []) s
    && same_words (take (records s) (drop (undoing_from (pages s)) s.work)) (replicate (records s) 0)) fresh ≡ true
unfolding logged words_of same_words after calls
emptied_log = refl
