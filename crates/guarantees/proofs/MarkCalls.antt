-- What the ledger notes at marks is what the book and the words say of them, at every point of every list. n is the number of pages.
-- Assumes nothing.
use Rattle.std.specs.Prelude.{Ok}
use Prim.Native.Nat.{ℕ, suc, ◌+◌, ◌≤◌, ◌<◌}
use native.Mathlib.Omega.{arith}
use mathlib.Core.Path.{◌≡◌, refl, sym, ap, ◌∙◌, subst}
use mathlib.Core.Bool.{Bool, true, false}
use mathlib.Core.List.{List}
use lib.ListN.{length, set, replicate}
use lib.Seq.{get_or-set_other}
use lib.Dec.{eqb, ltb}
use borrow.Author.Tests.{eqb-false, ne_eqb}
use Rattle.words.specs.Tests.{by_bool, or_l}
use Rattle.words.specs.Spans.{zero_at}
use Rattle.pages.specs.Geometry.{page_words, slot_words, page_of}
use Rattle.pages.specs.Objects.{word_of}
use Rattle.records.specs.Records.{txn_count, create_of, set_of, sweep_of}
use Rattle.areas.specs.Answers.{accepted, verdict}
use Rattle.areas.specs.Areas.{Areas, Out}
use Rattle.areas.specs.Layout.{phase_at, pass_page_at, reopening_at, reopening_page_at, finished, mark_count, order_at, undoing_at, work_words}
use Rattle.areas.specs.Tables.{at}
use Rattle.areas.specs.Entry.{pages, records}
use Rattle.calls.specs.Calls.{Call, reopens, perform}
use Rattle.calls.specs.Calls.Call.{begin, commit, abort, grant, lock_read, lock_write, read, create, set_word, flush, force, store, empty, pass, step, reopen, restep, mark, back, look}
use Rattle.calls.specs.Formatting.{formatted, cut}
use Rattle.calls.specs.Marks.{order_of, mark_set, back_to}
use Rattle.calls.specs.Objects.{created, word_set, flushed}
use Rattle.calls.specs.Pass.{advanced, freed_map, sweep_map, locked, sweep_tests, call_step}
use Rattle.calls.specs.Reopening.{page_stored, reopening_over, call_restep}
use Rattle.calls.specs.Stability.{emptied}
use Rattle.calls.specs.Transactions.{begun, committed, aborted}
use Rattle.acceptance.specs.Calls.{refused_keeps}
use Rattle.acceptance.specs.Entered.{Open, opened}
use Rattle.acceptance.specs.Looks.{look_keeps}
use Rattle.acceptance.specs.Transactions.{begin_outcome, begin_facts, commit_outcome, commit_facts, abort_outcome, abort_facts}
use Rattle.acceptance.specs.Rights.{grant_outcome}
use Rattle.acceptance.specs.Locks.{lock_read_outcome, lock_read_facts, lock_write_outcome, lock_write_facts}
use Rattle.acceptance.specs.Objects.{read_outcome, read_facts, create_outcome, create_facts, set_outcome, set_facts, flush_outcome, flush_facts}
use Rattle.acceptance.specs.Stability.{force_outcome, store_outcome, empty_outcome}
use Rattle.acceptance.specs.Marks.{mark_outcome, mark_facts, back_outcome, back_facts}
use Rattle.acceptance.specs.Pass.{pass_outcome, step_outcome, step_facts, step_way, StepWay, scans, turns, sweeps, stepped, sweep_map_of, sweeping, sweep_facts}
use Rattle.acceptance.specs.Reopening.{reopen_ran}
use Rattle.acceptance.specs.Room.{Room}
use Rattle.book.specs.Lines.{line}
use Rattle.book.specs.Books.{Book, full_pages}
use Rattle.book.specs.Feeding.{fed}
use Rattle.book.specs.Demand.{Event, call, power, Point, accepts, after, start}
use Rattle.collector.specs.State as M
use Rattle.machine_calls.specs.Tables.{phase_of}
use Rattle.machine_calls.proofs.Created.{create_beside}
use Rattle.machine_calls.proofs.Flushed.{flush_beside}
use Rattle.machine_calls.proofs.Frames.{beside_fill}
use Rattle.machine_calls.proofs.Learned.{read_beside}
use Rattle.machine_calls.proofs.Locking.{lock_read_beside, lock_write_beside}
use Rattle.machine_calls.proofs.Written.{set_beside}
use Rattle.book_laws.specs.After.{swept_by}
use Rattle.book_laws.specs.Seen.{seen_committed}
use Rattle.book_laws.proofs.Feeding.{sweep_committed}
use Rattle.book_laws.proofs.Folds.{untouched}
use Rattle.demand.proofs.Rights.{grant_beside}
use Rattle.demand.proofs.State.{OpenInv, Inv3}
use Rattle.demand.proofs.Finished.{accepted_open}
use Rattle.demand.proofs.Holds.{sweeping_phase}
use Rattle.demand.proofs.HoldsWaiting.{step_entered}
use Rattle.demand.proofs.Notes.{Behind}
use Rattle.demand.proofs.Passing.{start_beside, step_adds_none, scan_behind, turn_behind, advance_behind}
use Rattle.demand.proofs.Sweep.{lines_fed, spares_items}
use Rattle.guarantees.specs.Disks.{from_disk}
use Rattle.guarantees.specs.Ledgers.{kept}
use Rattle.guarantees.specs.Holders.{Granted, granting, grants}
use Rattle.guarantees.specs.Restoring.{Noted, unnoted, noting, notebook}
use Rattle.guarantees.proofs.Always.{Sure, as_open, as_storing}
use Rattle.guarantees.proofs.Through.{through}
use Rattle.guarantees.proofs.Granted.{Agrees, Ledgered, reopen_clear, keep_ledger, start_ledger, disk_ledger}
use Rattle.guarantees.proofs.MarkNotes.{OfTxn, unmarked, stays_all, quiet_stays, line_stays}
use Rattle.guarantees.proofs.MarkSteps.{active_runs, begun_marks, added_marks, committed_marks, aborted_marks}
use Rattle.guarantees.proofs.MarkMoves.{marked_marks, back_marks}

-- words that are clear
clear_marks : (n : ℕ) (w : List ℕ) (b : Book) (l : Noted) (t : ℕ) → ((j : ℕ) → 2 ≤ j → at w j ≡ 0) → OfTxn n w b l t
clear_marks n w b l t h = unmarked n w b l t (λ m a. h (order_at n t m) (omega arith))

-- no line comes
quiet : (n : ℕ) (w w' : List ℕ) (b b' : Book) (l l' : Noted) (t : ℕ) → OfTxn n w b l t → ((m : ℕ) → m < mark_count → order_of w' n t m ≡ order_of w n t m)
    → b'.origin ≡ b.origin → b'.lines ≡ b.lines → b'.running ≡ b.running → b'.marked ≡ b.marked
    → ((p : ℕ) → l.granted.writes t p ≡ true → l'.granted.writes t p ≡ true) → l'.pages ≡ l.pages → l'.owned ≡ l.owned → OfTxn n w' b' l' t
quiet n w w' b b' l l' t o e a c d k writes pages owned = stays_all n w w' b l b' l' t e
    (λ r m. quiet_stays b l b' l' t m a c d (ap (λ (f : ℕ → ℕ → ℕ). f t m) k) writes (ap (λ (f : ℕ → ℕ → List ℕ). f t m) pages) (ap (λ (f : ℕ → ℕ → ℕ → Bool). f t m) owned)) o

behind_orders : (n : ℕ) (w w' : List ℕ) (t : ℕ) → Behind n w w' → (m : ℕ) → m < mark_count → order_of w' n t m ≡ order_of w n t m
behind_orders n w w' t h m a = h (order_at n t m) (omega arith)

-- a pass step
module _ (n : ℕ) (some : 1 ≤ n) (s : Areas) (b : Book) (i : OpenInv n s b) (h : Open s n) (l : Noted) (g : Agrees n s.work l.granted) (t : ℕ) (o : OfTxn n s.work b l t) where
  -- it adds no line
  idle_marks : (w : List ℕ) → Behind n s.work w → OfTxn n w (fed n b step s.received s.received) l t
  idle_marks w e = rw (step_adds_none n b s.received) (quiet n s.work w b b l l t o (behind_orders n s.work w t e) refl refl refl refl (λ p d. d) refl refl)

  sweep_marks : phase_of (at s.work phase_at) ≡ M.sweeping → verdict (sweep_tests s n (sweep_map_of s n)) ≡ Ok tt → (sweep_map_of s n ≡ 0 → ⊥)
      → OfTxn n (sweeping s n).after.work (fed n b step s.received (sweeping s n).after.received) l t
  unfolding fed freed_map
  sweep_marks ph check on = let p = at s.work pass_page_at in by_bool (locked s.work n p)
      (λ e. absurd (on (rw e refl)))
      (λ e. let m = sweep_map s.copies s.work n p in
      let z : m ≡ 0 → ⊥ = rw e at on in
      let r : Room s n 1 = (sweep_facts s n (sweep_map_of s n) check).room on in
      rw (e, ne_eqb m 0 z, lines_fed n some s b i h ph e z r) (stays_all n s.work (advanced s.work n p) b l (swept_by b p m) l t
      (behind_orders n s.work (advanced s.work n p) t (advance_behind n some s b i h ph))
      (λ q k. line_stays b l (swept_by b p m) l t k (line (sweep_of p m) 0) refl refl refl (λ c d. d) refl refl
      (λ x d. sweep_committed b p m x ∙ untouched (suc (length b.lines)) (sweep_of p m) x (seen_committed b x) (spares_items n some s b i h ph e z r t x (sym (g.writers t (page_of x)) ∙ d)))) o))

  step_marks : (at s.work phase_at ≡ 0 → ⊥) → (x : Out) → StepWay s n x → OfTxn n x.after.work (fed n b step s.received x.after.received) l t
  step_marks ph x (scans m c d) = rw d (idle_marks _ (scan_behind n some s b i h m c))
  step_marks ph x (turns m c d) = rw d (idle_marks _ (turn_behind n some s b i h m))
  step_marks ph x (sweeps m c d) = let p = sweeping_phase (at s.work phase_at) ph m in rw d (by_bool (eqb (sweep_map_of s n) 0)
      (λ e. rw e (idle_marks _ (advance_behind n some s b i h p)))
      (λ e. sweep_marks p c (eqb-false _ _ e)))

-- a reopening's step leaves clear words
restep_clear : (n : ℕ) → 1 ≤ n → (s : Areas) (b : Book) → Inv3 n s b → accepted (call_restep s).answer ≡ true → (t m : ℕ) → t < txn_count → m < mark_count → order_of (call_restep s).after.work n t m ≡ 0
unfolding page_stored reopening_over
restep_clear n some s b v a t m small c =
    let k = (as_storing n s b v a).0 in
    let i = (as_storing n s b v a).1 in
    let p = at s.work reopening_page_at in
    let g = (step_entered n some s b k i a).1 in
    by_bool (ltb p n)
    (λ e. let d : (call_restep s).after ≡ page_stored s p = g ∙ rw e refl in rw d (get_or-set_other s.work reopening_page_at (order_at n t m) (p + 1) 0 (λ z. omega arith) ∙ i.clear (order_at n t m) (omega arith)))
    (λ e. let d : (call_restep s).after ≡ reopening_over s n = g ∙ rw e refl in
    rw d (get_or-set_other (set (emptied s n).work reopening_at finished) reopening_page_at (order_at n t m) 0 0 (λ z. omega arith) ∙ get_or-set_other (emptied s n).work reopening_at (order_at n t m) finished 0 (λ z. omega arith)
    ∙ (beside_fill (λ j. 0) s.work (undoing_at n 0) (records s)).below (order_at n t m) (omega arith) ∙ i.clear (order_at n t m) (omega arith)))

-- every accepted call
module _ (n : ℕ) (some : 1 ≤ n) (s : Areas) (b : Book) (v : Inv3 n s b) (l : Noted) (g : Agrees n s.work l.granted) (t : ℕ) (small : t < txn_count) (o : OfTxn n s.work b l t) where
  here : (c : Call) → reopens c ≡ false → accepted (perform s c).answer ≡ true → OpenInv n s b
  here c r a = as_open n s b v (accepted_open s c r a)

  abbrev Leaves : Book → Noted → Areas → Type 0
  Leaves d k x = OfTxn n x.work d k t

  accepted_marks : (c : Call) → accepted (perform s c).answer ≡ true → OfTxn n (perform s c).after.work (fed n b c s.received (perform s c).after.received) (noting l c s.received) t
  unfolding perform fed begun committed aborted created word_set flushed mark_set back_to
  accepted_marks (begin u c) a = let i = here (begin u c) refl a in through true s _ _ _ n (Leaves _ _) (begin_outcome s u c) a i.size
      (λ h k. begun_marks n some s b i h l g t small o u c (begin_facts s n u c k))
  accepted_marks (commit u) a = let i = here (commit u) refl a in through true s _ _ _ n (Leaves _ _) (commit_outcome s u) a i.size
      (λ h k. let f = commit_facts s n u k in committed_marks n some s b i h l g t small o u f.txn (active_runs n some s b i h l g t small o u f.txn f.active))
  accepted_marks (abort u) a = let i = here (abort u) refl a in through true s _ _ _ n (Leaves _ _) (abort_outcome s u) a i.size
      (λ h k. let f = abort_facts s n u k in aborted_marks n some s b i h l g t small o u f.txn (active_runs n some s b i h l g t small o u f.txn f.active))
  accepted_marks (grant d p r) a = through true s _ _ _ n (Leaves _ _) (grant_outcome s d p r) a (here (grant d p r) refl a).size
      (λ h k. quiet n s.work _ b b l _ t o (λ m c. (grant_beside s.work n d p r).below (order_at n t m) (omega arith)) refl refl refl refl (λ q e. e) refl refl)
  accepted_marks (lock_read u p) a = through true s _ _ _ n (Leaves _ _) (lock_read_outcome s u p) a (here (lock_read u p) refl a).size
      (λ h k. quiet n s.work _ b b l _ t o (λ m c. (lock_read_beside s.work n u p (lock_read_facts s n u p k).page).above (order_at n t m) (omega arith)) refl refl refl refl (λ q e. e) refl refl)
  accepted_marks (lock_write u p) a = through true s _ _ _ n (Leaves _ _) (lock_write_outcome s u p) a (here (lock_write u p) refl a).size
      (λ h k. quiet n s.work _ b b l _ t o (λ m c. (lock_write_beside s.work n u p (lock_write_facts s n u p k).page).above (order_at n t m) (omega arith)) refl refl refl refl (λ q e. or_l _ _ e) refl refl)
  accepted_marks (read u x buffer) a = through (eqb (length buffer) slot_words) s _ _ _ n (Leaves _ _) (read_outcome s u x buffer) a (here (read u x buffer) refl a).size
      (λ h k. let f = read_facts s n u x k in
      quiet n s.work _ b _ l _ t o (λ m c. (read_beside s.received s.work n u x h.ranged.received_sound f.object.low f.object.top).above (order_at n t m) (omega arith)) refl refl refl refl (λ q e. e) refl refl)
  accepted_marks (create u x) a = let i = here (create u x) refl a in through true s _ _ _ n (Leaves _ _) (create_outcome s u x) a i.size
      (λ h k. let f = create_facts s n u x k in added_marks n some s b i h l g t small o _ _ u (create_of u x)
      (λ m c. (create_beside s.work n u x f.object.low f.object.top).above (order_at n t m) (omega arith)) (active_runs n some s b i h l g t small o u f.txn f.active) refl refl refl refl refl refl)
  accepted_marks (set_word u x y z) a = let i = here (set_word u x y z) refl a in through true s _ _ _ n (Leaves _ _) (set_outcome s u x y z) a i.size
      (λ h k. let f = set_facts s n u x y z k in added_marks n some s b i h l g t small o _ _ u (set_of u x y (word_of (full_pages b) x y) z)
      (λ m c. (set_beside s.received s.work n u x y z h.ranged.received_sound f.object.low f.object.top f.field).above (order_at n t m) (omega arith))
      (active_runs n some s b i h l g t small o u f.txn f.active) refl refl refl refl refl refl)
  accepted_marks (flush u p image) a = through (eqb (length image) page_words) s _ _ _ n (Leaves _ _) (flush_outcome s u p image) a (here (flush u p image) refl a).size
      (λ h k. quiet n s.work _ b b l _ t o (λ m c. (flush_beside s.work n u p (flush_facts s n u p image k).page).above (order_at n t m) (omega arith)) refl refl refl refl (λ q e. e) refl refl)
  accepted_marks force a = through true s _ _ _ n (Leaves _ _) (force_outcome s) a (here force refl a).size (λ h k. quiet n s.work s.work b _ l _ t o (λ m c. refl) refl refl refl refl (λ q e. e) refl refl)
  accepted_marks (store p) a = through true s _ _ _ n (Leaves _ _) (store_outcome s p) a (here (store p) refl a).size (λ h k. quiet n s.work s.work b b l _ t o (λ m c. refl) refl refl refl refl (λ q e. e) refl refl)
  accepted_marks empty a = through true s _ _ _ n (Leaves _ _) (empty_outcome s) a (here empty refl a).size
      (λ h k. quiet n s.work _ b b l _ t o (λ m c. (beside_fill (λ j. 0) s.work (undoing_at n 0) (records s)).below (order_at n t m) (omega arith)) refl refl refl refl (λ q e. e) refl refl)
  accepted_marks pass a = through true s _ _ _ n (Leaves _ _) (pass_outcome s) a (here pass refl a).size
      (λ h k. quiet n s.work _ b b l _ t o (λ m c. (start_beside s.work n).above (order_at n t m) (omega arith)) refl refl refl refl (λ q e. e) refl refl)
  accepted_marks step a = let i = here step refl a in
      let k = (step_outcome s).ran a in
      let p = opened true s k.n k.ready in
      let e : k.n ≡ n = sym p.sized.count ∙ i.size in
      let d : call_step s ≡ stepped s n = k.gives ∙ ap (stepped s) e in
      step_marks n some s b i (rw e at p) l g t o (step_facts s k.passed).one_runs (call_step s) (step_way s n (call_step s) a d)
  accepted_marks reopen a = rw (ap (λ (x : Out). x.after.work) (reopen_ran s a).gives) (clear_marks n _ _ _ t (reopen_clear s))
  accepted_marks restep a = unmarked n _ _ _ t (λ m c. restep_clear n some s b v a t m small c)
  accepted_marks (mark u m) a = let i = here (mark u m) refl a in through true s _ _ _ n (Leaves _ _) (mark_outcome s u m) a i.size
      (λ h k. marked_marks n some s b i h l g t small o u m (mark_facts s u m k))
  accepted_marks (back u m) a = let i = here (back u m) refl a in through true s _ _ _ n (Leaves _ _) (back_outcome s u m) a i.size
      (λ h k. back_marks n some s b i h l g t small o u m (back_facts s n u m k))
  accepted_marks (look q) a = rw (look_keeps s q) o

-- the invariant
pub record Restorable (n : ℕ) (q : Point) (l : Noted) : Type 0 where
  pub ledgered : Ledgered n q l.granted
  pub marks : (t : ℕ) → t < txn_count → OfTxn n q.store.work q.book l t

-- its locks are those of the ledger of locks
noted_granted : (l : Noted) (c : Call) (r : List ℕ) → (noting l c r).granted ≡ granting l.granted c
noted_granted l (begin t c) r = refl
noted_granted l (commit t) r = refl
noted_granted l (abort t) r = refl
noted_granted l (grant c p x) r = refl
noted_granted l (lock_read t p) r = refl
noted_granted l (lock_write t p) r = refl
noted_granted l (read t o buffer) r = refl
noted_granted l (create t o) r = refl
noted_granted l (set_word t o f v) r = refl
noted_granted l (flush t p image) r = refl
noted_granted l force r = refl
noted_granted l (store p) r = refl
noted_granted l empty r = refl
noted_granted l pass r = refl
noted_granted l step r = refl
noted_granted l reopen r = refl
noted_granted l restep r = refl
noted_granted l (mark t m) r = refl
noted_granted l (back t m) r = refl
noted_granted l (look q) r = refl

kept_granted : (q : Point) (l : Noted) (e : Event) → (kept notebook q l e).granted ≡ kept grants q l.granted e
unfolding kept
kept_granted q l (call c) = by_bool (accepts q c) (λ a. rw a (noted_granted l c q.store.received)) (λ a. rw a refl)
kept_granted q l power = refl

keep_marks : (n : ℕ) → 1 ≤ n → (q : Point) (l : Noted) (e : Event) → Sure n q → Restorable n q l → (t : ℕ) → t < txn_count
    → OfTxn n (after n q e).store.work (after n q e).book (kept notebook q l e) t
unfolding after kept cut
keep_marks n some q l (call c) u j t small = by_bool (accepts q c)
    (λ a. rw a (accepted_marks n some q.store q.book u.inv l j.ledgered.agrees t small (j.marks t small) c a))
    (λ a. rw (a, refused_keeps q.store c a) (j.marks t small))
keep_marks n some q l power u j t small = clear_marks n _ _ _ t (λ k h. zero_at (length q.store.work) k)

pub keep_restorable : (n : ℕ) → 1 ≤ n → (q : Point) (l : Noted) (e : Event) → Sure n q → Restorable n q l → Restorable n (after n q e) (kept notebook q l e)
keep_restorable n some q l e u j = record {
  ledgered = subst (λ (k : Granted). Ledgered n (after n q e) k) (sym (kept_granted q l e)) (keep_ledger n some q l.granted e u j.ledgered);
  marks = keep_marks n some q l e u j;
}

pub start_restorable : (n k : ℕ) → Restorable n (start n k) unnoted
unfolding formatted
start_restorable n k = record {
  ledgered = start_ledger n k;
  marks = λ t small. clear_marks n _ _ _ t (λ i h. get_or-set_other (replicate (work_words n k) 0) 0 i 2 0 (λ z. omega arith) ∙ zero_at (work_words n k) i);
}

pub disk_restorable : (s : Areas) → Restorable (pages s) (from_disk s) unnoted
unfolding cut
disk_restorable s = record { ledgered = disk_ledger s; marks = λ t small. clear_marks (pages s) _ _ _ t (λ i h. zero_at (length s.work) i) }
