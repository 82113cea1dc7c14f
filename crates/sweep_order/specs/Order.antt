-- Document 02, L7: 'Reviewers hold section 4.3 and 4.5 beside the code. Put the step in that text's order: colours and COT of the page,
-- then nothing to free, then the lock, then the page. Answers and buffers do not change for any input.' The sections are source document
-- 003's. The call's definition stays `swept` of crates/calls/specs/Pass.antt; crates/order_laws claims and proves that this one equals it.
-- n is the number of pages, p the page. Assumes nothing.
use Rattle.std.specs.Prelude.{ℕ, true, ◌&&◌, List, [], ◌∷◌, eqb}
use Rattle.words.specs.Tests.{if}
use Rattle.words.specs.Bits.{bit, map_of, slots_set}
use Rattle.pages.specs.Geometry.{slot_count}
use Rattle.pages.specs.Objects.{taken}
use Rattle.areas.specs.declared.Refusal.TheVariants.{LogFull}
use Rattle.areas.specs.Answers.{need, verdict}
use Rattle.areas.specs.Areas.{Areas, Out, done, checked, with_work}
use Rattle.areas.specs.Layout.{pass_page_at}
use Rattle.areas.specs.Tables.{at, is_marking}
use Rattle.areas.specs.Entry.{called}
use Rattle.calls.specs.Room.{sweep_room, room_beyond}
use Rattle.calls.specs.Pass.{marked, locked, unmarked, advanced, swept_page, step_tests}

-- colours and COT of the page: the slots that are white and have no COT entry
unfoldable pub unmarked_map : List ℕ → ℕ → ℕ → ℕ
unmarked_map w n p = map_of (unmarked w n p) slot_count

-- the page: the slots of u that it has occupied
unfoldable pub occupied_of : List ℕ → ℕ → ℕ → ℕ
occupied_of copies p u = map_of (λ k. taken copies p k && bit u k) slot_count

-- the page is left as it is, and the pass goes on
abbrev pub moved_on : Areas → ℕ → ℕ → Out
moved_on s n p = done 0 (with_work s (advanced s.work n p))

-- 4.3: 'It reclaims any objects that have been left colored as garbage'; 4.4: 'have the sweeper log the color map for each page that it
-- modifies', for which document 01 asks 1 record's room
unfoldable pub reclaimed : Areas → ℕ → ℕ → ℕ → Out
reclaimed s n p m =
    checked (verdict (need 11 LogFull (room_beyond s n sweep_room) ∷ [])) s (done (slots_set m) (with_work (swept_page s p m) (advanced s.work n p)))

-- a sweeping step
unfoldable pub swept_in_order : Areas → ℕ → Out
swept_in_order s n =
    let p = at s.work pass_page_at in
    let on = moved_on s n p in
    -- 4.3: 'the sweeper checks the color map and COT entries for the page before reading the page from disk.'
    let u = unmarked_map s.work n p in
    -- 4.3: 'If the page has no garbage objects on it, then the sweeper simply moves on to the next page.'
    if (eqb u 0) on
    -- 4.5: 'If the lock is not granted, then some transaction has a write lock on the page. In this case, the sweeper simply skips the page'
    (if (locked s.work n p) on
    -- the page: which of these slots it has occupied
    (let m = occupied_of s.copies p u in if (eqb m 0) on (reclaimed s n p m)))

-- a pass step with it
unfoldable pub step_in_order : Areas → Out
step_in_order s =
    called true true s (λ n. step_tests s) (λ n. let mark = marked s n in let sweep = swept_in_order s n in if (is_marking s.work) mark sweep)
