-- No call is refused with 14, no end with 11, and no call with 1 but for its own buffers. n is the number of pages. Assumes nothing.
use Rattle.std.specs.Prelude.{Ok, Err}
use Prim.Native.Nat.{ℕ, ◌+◌, ◌*◌, ◌-◌, ◌≤◌}
use native.Mathlib.Omega.{arith}
use mathlib.Core.Path.{◌≡◌, refl, sym, ap, ◌∙◌}
use mathlib.Core.Bool.{Bool, true, false, ◌&&◌}
use mathlib.Core.List.{List, [], ◌∷◌}
use lib.ListN.{length}
use lib.Seq.{length-take-le}
use lib.Dec.{eqb, leb}
use borrow.Author.Tests.{le-leb, eq-eqb, eqb-true, eqb-false, ltb-true}
use Rattle.words.specs.Tests.{if, all, by_bool, clash, and_split, all_intro, all_at}
use Rattle.pages.specs.Geometry.{page_words, slot_words, object_count, root, max_pages}
use Rattle.pages.specs.Objects.{occupied}
use Rattle.pages.specs.Soundness.{area_sound, map_sound, refs_sound, page_sound, free_zero}
use Rattle.records.specs.Recovery.{recoverable}
use Rattle.areas.specs.declared.Refusal.TheVariants.{Malformed, Unsound}
use Rattle.areas.specs.Answers.{Test, accepted, need, verdict, spares, answer_of, check_number, need_holds, fails_later, fails_last, spared, Check}
use Rattle.areas.specs.Areas.{Areas, Out, received_count, stable_count, done, checked}
use Rattle.areas.specs.Layout.{work_words, marked_at}
use Rattle.areas.specs.Tables.{at, is_txn, is_active, is_marking}
use Rattle.areas.specs.Ranges.{fit, lengths_fit}
use Rattle.areas.specs.Entry.{pages, records, reopening, well_formed, is_ready, called, called_checked, called_closed}
use Rattle.calls.specs.Locks.{lock_read_tests, call_lock_read, lock_write_tests, call_lock_write}
use Rattle.calls.specs.Objects.{read_tests, call_read, create_tests, call_create, set_tests, call_set, flush_tests, call_flush}
use Rattle.calls.specs.Pass.{pass_tests, call_pass, lowest_grey, marked, sweep_tests, swept, step_tests, call_step}
use Rattle.calls.specs.Reopening.{reopen_tests, reopened, call_reopen, restep_tests, call_restep}
use Rattle.calls.specs.Stability.{force_tests, call_force, store_tests, call_store, empty_tests, call_empty}
use Rattle.calls.specs.Rights.{grant_tests, call_grant}
use Rattle.calls.specs.Transactions.{begin_tests, call_begin, commit_tests, call_commit, changes_of, abort_tests, call_abort}
use Rattle.calls.specs.Looks.{call_look}
use Rattle.calls.specs.Calls.{Call, perform}
use Rattle.calls.specs.Calls.Call.{begin, commit, abort, grant, lock_read, lock_write, read, create, set_word, flush, force, store, empty, pass, step, reopen, restep, mark, back, look}
use Rattle.calls.specs.Marks.{is_mark, mark_tests, call_mark, since_mark, back_tests, call_back}
use Rattle.acceptance.specs.Lengths.{Sized}
use Rattle.acceptance.specs.Pass.{scanning, turning, sweep_map_of, sweeping, stepped}
use Rattle.book.specs.Lines.{left}
use Rattle.book.specs.Books.{Book, storing, committed_lines, committed_pages, stopped}
use Rattle.book.specs.Demand.{Event, Point, after, start}
use Rattle.book_laws.specs.Seen.{committed_of}
use Rattle.demand.proofs.State.{machine, Waiting, Inv3}
use Rattle.demand.proofs.Change.{machine_shows}
use Rattle.demand.proofs.Stopping.{stops}
use Rattle.machine_calls.proofs.Facts.{act_is}
use Rattle.demand.proofs.Abort.{words_count}
use Rattle.demand.proofs.Reopen.{recovered_committed}
use Rattle.guarantees.specs.Disks.{from_disk, Disk}
use Rattle.guarantees.specs.Points.{AtEvery, last, then, Always}
use Rattle.guarantees.specs.Refusals.{Reopenable, NeverUnsound, Endable, RoomToEnd, own_fits, WellFormed, NeverMalformed}
use Rattle.guarantees.proofs.Fine.{Fine}
use Rattle.guarantees.proofs.Sound.{firm_stop}
use Rattle.guarantees.proofs.Reserve.{share_runs, share_held}
use Rattle.guarantees.proofs.Always.{as_open, Sure, keep_sure, start_sure}
use Rattle.guarantees.proofs.Disks.{disk_some, disk_inv, disk_fine}
use Rattle.records.specs.Records.{record_words, txn_count, max_records}

-- what the invariants give at a point holds at every point
pub at_every : (n : ℕ) → 1 ≤ n → (Q : Point → Type 0) → ((q : Point) → Sure n q → Q q) → (es : List Event) (q : Point) → Sure n q → AtEvery n Q q es
at_every n some Q f [] q u = last (f q u)
at_every n some Q f (e ∷ es) q u = then (f q u) (at_every n some Q f es (after n q e) (keep_sure n some q e u))

pub disk_sure : (s : Areas) (d : Disk s) → Sure (pages s) (from_disk s)
disk_sure s d = record { inv = disk_inv s d; fine = disk_fine s d }

pub always : (Q : Point → Type 0) → ((n : ℕ) → 1 ≤ n → (q : Point) → Sure n q → Q q) → Always Q
always Q f = record {
  formatted = λ n l some most low few es. at_every n some Q (f n some) es (start n l) (start_sure n l some most low few);
  disk = λ s d es. at_every (pages s) (disk_some s d) Q (f (pages s) (disk_some s d)) es (from_disk s) (disk_sure s d);
}

-- lengths fit
pub fits : (n : ℕ) (s : Areas) → Sized s n → fit s ≡ true
unfolding lengths_fit
fits n s z =
    let c = z.count in
    rw (
      le-leb 1 (pages s) (let l = z.low in omega arith),
      le-leb (pages s) max_pages (let l = z.top in omega arith),
      eq-eqb (length s.stored) (page_words * pages s) (z.stored_len ∙ ap (λ (m : ℕ). page_words * m) (sym c)),
      eq-eqb (length s.copies) (length s.stored) (z.copies_len ∙ sym z.stored_len),
      eq-eqb (length s.received) (length s.stored) (z.received_len ∙ sym z.stored_len),
      le-leb 1 (records s) z.log_low,
      le-leb (records s) max_records z.log_top,
      eq-eqb (length s.log) (record_words * records s) z.log_len,
      eq-eqb (length s.counts) 2 z.counts_len,
    )
    (eq-eqb (length s.work) (work_words (pages s) (records s)) (z.work_len ∙ ap (λ (m : ℕ). work_words m (records s)) (sym c)))

-- refusal 14
free_all : (n : ℕ) (a : List ℕ) → area_sound a n ≡ true → all (free_zero a) n ≡ true
unfolding area_sound page_sound
free_all n a h = all_intro (free_zero a) n (λ p l. (and_split (map_sound a p && refs_sound a n p) (free_zero a p) (all_at (page_sound a n) n p (and_split (all (page_sound a n) n) (occupied a root) h).0 l)).1)

module _ (n : ℕ) (some : 1 ≤ n) (s : Areas) (b : Book) (i : Inv3 n s b) (f : Fine n s b) where
  abbrev b' : Book
  b' = stopped (storing 0) b

  waits : Waiting n s b'
  waits = stops n s b (storing 0) i

  recovers : recoverable n s.stored s.log (stable_count s) ≡ true
  unfolding recoverable committed_lines committed_of
  recovers = rw (f.stored, waits.order, recovered_committed n s b i f.sized.stored_len f.stored) (free_all n (committed_pages b') (firm_stop n (storing 0) b f.firm 0 (omega arith)))

  pub reopenable : accepted (call_reopen s).answer ≡ true
  unfolding call_reopen reopen_tests verdict
  reopenable = rw (fits n s f.sized, le-leb (stable_count s) (records s) f.stable_le, f.sized.count, recovers) refl

pub never_unsound : NeverUnsound
unfolding perform
never_unsound = always Reopenable (λ n some q u. reopenable n some q.store q.book u.inv u.fine)

-- refusal 1
pub formed : (n : ℕ) (s : Areas) (b : Book) → Fine n s b → (own : Bool) → own ≡ true → well_formed own s ≡ true
unfolding well_formed
formed n s b f own e = rw (e, fits n s f.sized, f.sized.count) (by_bool (eqb (reopening s) 0)
    (λ z. rw z refl)
    (λ z. rw z (f.range (eqb-false (reopening s) 0 z))))

checked_not : (a : ℕ) (c : Check) (s : Areas) (k : Out) → (check_number c ≡ a → ⊥) → (answer_of k.answer ≡ a → ⊥) → answer_of (checked c s k).answer ≡ a → ⊥
checked_not a (Ok tt) s k h g e = g e
checked_not a (Err x) s k h g e = h e

-- a call in the frame, with words in range, that is not refused with number a: neither by refusal 2, nor by its own tests, nor by its outcome
called_not : (a : ℕ) (must own : Bool) (s : Areas) (tests : ℕ → List Test) (k : ℕ → Out) → well_formed own s ≡ true → (2 ≡ a → ⊥) →
    (is_ready must s ≡ true → check_number (verdict (tests (pages s))) ≡ a → ⊥) → (answer_of (k (pages s)).answer ≡ a → ⊥) → answer_of (called must own s tests k).answer ≡ a → ⊥
called_not a must own s tests k w two h g e = by_bool (is_ready must s)
    (λ o. checked_not a (verdict (tests (pages s))) s (k (pages s)) (h o) g (ap (λ (x : Out). answer_of x.answer) (called_checked must own s tests k w o) ∙ e))
    (λ o. two (ap (λ (x : Out). answer_of x.answer) (called_closed must own s tests k w o) ∙ e))

if_not : (a : ℕ) (c : Bool) (x y : Out) → (answer_of x.answer ≡ a → ⊥) → (answer_of y.answer ≡ a → ⊥) → answer_of (if c x y).answer ≡ a → ⊥
if_not a true x y h g e = h e
if_not a false x y h g e = g e

-- no own test of a call refuses with 1
mild : (n : ℕ) (s : Areas) (b : Book) → Fine n s b → (must own : Bool) → own ≡ true → (tests : ℕ → List Test) (k : ℕ → Out)
    → ((m : ℕ) → spares 1 (tests m) ≡ true) → ((m : ℕ) → answer_of (k m).answer ≡ 1 → ⊥) → answer_of (called must own s tests k).answer ≡ 1 → ⊥
mild n s b f must own e tests k c d =
    called_not 1 must own s tests k (formed n s b f own e) (λ z. omega arith) (λ o. spared 1 (tests (pages s)) (λ z. omega arith) (c (pages s))) (d (pages s))

-- a pass step's own
step_mild : (s : Areas) (n : ℕ) → answer_of (stepped s n).answer ≡ 1 → ⊥
unfolding marked swept sweep_tests spares
step_mild s n = if_not 1 (is_marking s.work) (marked s n) (swept s n)
    (if_not 1 (leb (lowest_grey s.work n) (object_count n)) (scanning s n) (turning s n) (λ z. omega arith) (λ z. omega arith))
    (checked_not 1 (verdict (sweep_tests s n (sweep_map_of s n))) s (sweeping s n) (spared 1 (sweep_tests s n (sweep_map_of s n)) (λ z. omega arith) refl) (λ z. omega arith))

module _ (n : ℕ) (s : Areas) (b : Book) (f : Fine n s b) where
  -- one that needs the reopening finished, has no buffer of its own, and is done
  plain : (tests : ℕ → List Test) (v : ℕ → ℕ) (a : ℕ → Areas) → ((m : ℕ) → spares 1 (tests m) ≡ true) → answer_of (called true true s tests (λ m. done (v m) (a m))).answer ≡ 1 → ⊥
  plain tests v a c = mild n s b f true true refl tests _ c (λ m z. omega arith)

  well_formed_law : (c : Call) → own_fits c ≡ true → answer_of (perform s c).answer ≡ 1 → ⊥
  unfolding spares perform call_begin call_commit call_abort call_grant call_lock_read call_lock_write call_read call_create call_set call_flush call_force call_store call_empty call_pass call_step call_restep call_reopen call_mark call_back call_look begin_tests commit_tests abort_tests grant_tests lock_read_tests lock_write_tests read_tests create_tests set_tests flush_tests force_tests store_tests empty_tests pass_tests step_tests restep_tests reopen_tests mark_tests back_tests
  well_formed_law (begin t c) o = plain (λ m. begin_tests s m t c) _ _ (λ m. refl)
  well_formed_law (commit t) o = plain (λ m. commit_tests s m t) _ _ (λ m. refl)
  well_formed_law (abort t) o = plain (λ m. abort_tests s m t) _ _ (λ m. refl)
  well_formed_law (grant c p r) o = plain (λ m. grant_tests s m c p r) _ _ (λ m. refl)
  well_formed_law (lock_read t p) o = plain (λ m. lock_read_tests s m t p) _ _ (λ m. refl)
  well_formed_law (lock_write t p) o = plain (λ m. lock_write_tests s m t p) _ _ (λ m. refl)
  well_formed_law (read t x buffer) o = mild n s b f true (eqb (length buffer) slot_words) o (λ m. read_tests s m t x) _ (λ m. refl) (λ m z. omega arith)
  well_formed_law (create t x) o = plain (λ m. create_tests s m t x) _ _ (λ m. refl)
  well_formed_law (set_word t x g v) o = plain (λ m. set_tests s m t x g v) _ _ (λ m. refl)
  well_formed_law (flush t p image) o = mild n s b f true (eqb (length image) page_words) o (λ m. flush_tests s m t p image) _ (λ m. refl) (λ m z. omega arith)
  well_formed_law force o = plain (λ m. force_tests s) _ _ (λ m. refl)
  well_formed_law (store p) o = plain (λ m. store_tests s m p) _ _ (λ m. refl)
  well_formed_law empty o = plain (λ m. empty_tests s) _ _ (λ m. refl)
  well_formed_law pass o = plain (λ m. pass_tests s) _ _ (λ m. refl)
  well_formed_law step o = mild n s b f true true refl (λ m. step_tests s) (stepped s) (λ m. refl) (step_mild s)
  well_formed_law restep o = mild n s b f false true refl (λ m. restep_tests s) _ (λ m. refl) (λ m z. omega arith)
  well_formed_law (mark t m) o = plain (λ k. mark_tests s t m) _ _ (λ k. refl)
  well_formed_law (back t m) o = plain (λ k. back_tests s k t m) _ _ (λ k. refl)
  well_formed_law (look q) o = mild n s b f true q.own o (q.tests s) _ (q.spares_1 s) (λ m z. omega arith)
  well_formed_law reopen o = checked_not 1 (verdict (reopen_tests s)) s (done 0 (reopened s))
      (λ h. spared 1 (need 14 Unsound (leb (stable_count s) (records s) && recoverable (pages s) s.stored s.log (stable_count s)) ∷ []) (λ z. omega arith) refl
      (ap check_number (need_holds 1 Malformed (fit s) _ (fits n s f.sized)) ∙ h)) (λ z. omega arith)

pub never_malformed : NeverMalformed
never_malformed = always WellFormed (λ n some q u c o e. well_formed_law n q.store q.book u.fine c o (ap answer_of e))

-- refusal 11: an active transaction's records are in reserve
module _ (n : ℕ) (some : 1 ≤ n) (s : Areas) (b : Book) (i : Inv3 n s b) (f : Fine n s b) (t : ℕ) where
  reserve : is_txn t ≡ true → is_active s.work t ≡ true → reopening s ≡ 2 → received_count s + (length (changes_of s (pages s) t) + 1) ≤ records s
  reserve x a e =
      let o = as_open n s b i e in
      let l = ltb-true t txn_count x in
      let run = o.active t (act_is s n (machine n s b) (machine_shows n s b) t l ∙ a) in
      let p : length (changes_of s (pages s) t) ≡ left (b.running t) b.lines = rw o.size (words_count n s b o t l run) in
      let q = share_runs b t run in
      let h = share_held b t l in
      let r = f.room e in
      omega arith

  commit_room : answer_of (call_commit s t).answer ≡ 11 → ⊥
  unfolding call_commit commit_tests
  commit_room = called_not 11 true true s (λ m. commit_tests s m t) _ (formed n s b f true refl) (λ z. omega arith)
      (λ o e. let x = fails_later 11 _ _ refl e in let a = fails_later 11 _ _ refl x.1 in let u = fails_later 11 _ _ refl a.1 in
      let r = reserve x.0 a.0 (eqb-true _ _ o) in
      clash (le-leb (received_count s + 1) (records s) (omega arith)) (fails_last 11 _ (λ z. omega arith) u.1))
      (λ z. omega arith)

  abort_room : answer_of (call_abort s t).answer ≡ 11 → ⊥
  unfolding call_abort abort_tests
  abort_room = called_not 11 true true s (λ m. abort_tests s m t) _ (formed n s b f true refl) (λ z. omega arith)
      (λ o e. let x = fails_later 11 _ _ refl e in let a = fails_later 11 _ _ refl x.1 in
      clash (le-leb (received_count s + (length (changes_of s (pages s) t) + 1)) (records s) (reserve x.0 a.0 (eqb-true _ _ o))) (fails_last 11 _ (λ z. omega arith) a.1))
      (λ z. omega arith)

  back_room : (m : ℕ) → answer_of (call_back s t m).answer ≡ 11 → ⊥
  unfolding call_back back_tests
  back_room m = called_not 11 true true s (λ k. back_tests s k t m) _ (formed n s b f true refl) (λ z. omega arith)
      (λ o e. let x = fails_later 11 _ _ refl e in let a = fails_later 11 _ _ refl x.1 in let u = fails_later 11 _ _ refl a.1 in
      let r = reserve (and_split (is_txn t) (is_mark m) x.0).0 a.0 (eqb-true _ _ o) in
      let d = length-take-le (length (changes_of s (pages s) t) - at s.work (marked_at (pages s) t m)) (changes_of s (pages s) t) (omega arith) in
      clash (le-leb (received_count s + length (since_mark s (pages s) t m)) (records s) (omega arith)) (fails_last 11 _ (λ z. omega arith) u.1))
      (λ z. omega arith)

pub room_to_end : RoomToEnd
unfolding perform
room_to_end = always Endable (λ n some q u. record {
  commits = λ t e. commit_room n some q.store q.book u.inv u.fine t (ap answer_of e);
  aborts = λ t e. abort_room n some q.store q.book u.inv u.fine t (ap answer_of e);
  backs = λ t m e. back_room n some q.store q.book u.inv u.fine t m (ap answer_of e);
})
