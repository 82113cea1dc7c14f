-- The check of an abort, the restored copies and its outcome, of the lists that the code has. n is the number of pages. Assumes nothing.
use Rattle.std.specs.Prelude.{ℕ, ◌+◌, ◌*◌, ◌/◌, ◌<◌, ◌≤◌, ◌≡◌, refl, true, false, List, [], ◌∷◌, length, get_or, set, Ok, Err}
use Rattle.std.proofs.Common.{sym, ◌∙◌, add-one, arith, lt-ltb, le-ltb}
use Rattle.std.proofs.Math.Path.{ap}
use Rattle.words.specs.Tests.{if}
use Rattle.pages.specs.Geometry.{page_words}
use Rattle.pages.specs.Objects.{copied_page}
use Rattle.records.specs.Records.{txn_count, record_at, recorded, aborted_of}
use Rattle.records.specs.Effects.{effect, undoing}
use Rattle.areas.specs.declared.Refusal.TheVariants.{OutOfRange, WrongState, LogFull}
use Rattle.areas.specs.Answers.{verdict, all_passed, need_holds, need_fails, Check}
use Rattle.areas.specs.Areas.{Areas, Out, areas, out, received_count, with_copies, with_work, appended}
use Rattle.areas.specs.Tables.{is_active, can_write}
use Rattle.calls.specs.Room.{room_within}
use Rattle.calls.specs.Transactions.{ended_tables, changes_of, rolled_back, restored, abort_tests, aborted}
use Rattle.acceptance.specs.Entered.{Open}
use Rattle.acceptance.specs.Transactions.{abort_facts}
use Rattle.log_ops.specs.Logs.{left_in, counted, open_kept, open_undoing}
use Rattle.aborts.specs.Rolling.{Undoable}

-- the check, of the lists that it reads
pub abort_as : (s c r g k w : List ℕ) (n t : ℕ) {x : Check} → x ≡ verdict (abort_tests (areas [] [] [] g k w) n t) → x ≡ verdict (abort_tests (areas s c r g k w) n t)
unfolding abort_tests
abort_as s c r g k w n t e = e

module _ (s : Areas) (n t : ℕ) where
  pub abort_outside : txn_count ≤ t → Err OutOfRange ≡ verdict (abort_tests s n t)
  unfolding abort_tests
  abort_outside h = need_fails _ _ _ _ (le-ltb t txn_count h)

  module _ (h : t < txn_count) where
    pub abort_inactive : is_active s.work t ≡ false → Err WrongState ≡ verdict (abort_tests s n t)
    unfolding abort_tests
    abort_inactive a = need_fails _ _ _ _ a ∙ need_holds _ _ _ _ (lt-ltb t txn_count h)

    -- left: what the code found
    module _ (a : is_active s.work t ≡ true) {left : ℕ} (e : left ≡ length (changes_of s n t)) where
      pub abort_passes : room_within s (left + 1) ≡ true → Ok tt ≡ verdict (abort_tests s n t)
      unfolding abort_tests
      abort_passes b = all_passed ∙ need_holds _ _ _ _ (ap (λ (x : ℕ). room_within s (x + 1)) (sym e) ∙ b) ∙ need_holds _ _ _ _ a ∙ need_holds _ _ _ _ (lt-ltb t txn_count h)

      pub abort_full : room_within s (left + 1) ≡ false → Err LogFull ≡ verdict (abort_tests s n t)
      unfolding abort_tests
      abort_full b = need_fails _ _ _ _ (ap (λ (x : ℕ). room_within s (x + 1)) (sym e) ∙ b) ∙ need_holds _ _ _ _ a ∙ need_holds _ _ _ _ (lt-ltb t txn_count h)

-- what the code that makes the change needs of an abort whose tests passed
pub abort_ready : (s : Areas) (n t : ℕ) → Open s n → verdict (abort_tests s n t) ≡ Ok tt →
    Undoable s.received s.log s.counts s.work n t × ((0 < n) × (page_words * n ≤ length s.received) × (page_words * n ≤ length s.copies))
abort_ready s n t o h =
    let f = abort_facts s n t h in
    let z = o.sized in
    let r = f.room in (
      record {
        kept = open_kept s n o;
        words = open_undoing s n o;
        sound = (let m : length s.received / page_words ≡ n = omega arith in rw m o.ranged.records_sound_law);
        txn = f.txn;
        room = omega arith;
        top = z.log_top;
      },
      (omega arith, omega arith, omega arith),
    )

-- one more page restored
pub restored_next : (w received copies : List ℕ) (n t p : ℕ) (c : List ℕ) → c ≡ restored w n t received copies p → {d : List ℕ} →
    d ≡ if (can_write w n t p) (copied_page received c p) c → d ≡ restored w n t received copies (p + 1)
unfolding restored
restored_next w received copies n t p c h e =
    e ∙ ap (λ (x : List ℕ). if (can_write w n t p) (copied_page received x p) x) h ∙ ap (restored w n t received copies) (sym (add-one p))

-- the pages, the log and the counts do not depend on the other areas
rolled_other : (g l s c a h k w : List ℕ) → rolled_back g l (areas s c a h k w) ≡ (let z = rolled_back g l (areas [] [] a h k []) in areas s c z.received z.log z.counts w)
unfolding rolled_back appended
rolled_other g [] s c a h k w = refl
rolled_other g (i ∷ is) s c a h k w =
    rolled_other g is s c (effect a (undoing (record_at g i))) (recorded h (get_or k 0 0) (undoing (record_at g i))) (set k 0 (get_or k 0 0 + 1)) w

-- an abort from the areas z that its undoing records leave; c and w: the copies and the tables before it
abbrev ended_from : List ℕ → List ℕ → ℕ → ℕ → Areas → Areas
ended_from c w n t z = let a = appended z (aborted_of t) in with_work (with_copies a (restored w n t a.received c n)) (ended_tables w n t)

-- .. as the code leaves the pages, the log and the counts of b
abbrev ended_as : List ℕ → List ℕ → List ℕ → ℕ → ℕ → Areas → Out
ended_as s c w n t b = out (Ok (received_count b)) s (restored w n t b.received c n) b.received b.log b.counts (ended_tables w n t)

-- the outcome
module _ (s c a g k w : List ℕ) (n t x : ℕ) (c' a' g' k' w' : List ℕ) where
  pub aborted_out :
      (areas [] [] a' g' k' [] ≡ appended (rolled_back g (left_in g k w n t) (areas [] [] a g k [])) (aborted_of t)) × (x ≡ get_or k' 0 0) →
      c' ≡ restored w n t a' c n → w' ≡ ended_tables w n t → out (Ok x) s c' a' g' k' w' ≡ counted (aborted (areas s c a g k w) n t)
  unfolding aborted appended
  aborted_out e hc hw =
      rw (e.1, hc, hw) (ap (ended_as s c w n t) e.0)
      ∙ ap (λ (z : Areas). counted (ended_from c w n t z))
      (sym (rolled_other g (left_in g k w n t) s c a g k w))
