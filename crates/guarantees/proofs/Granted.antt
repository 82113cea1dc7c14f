-- The masks of the pages are what the ledger of locks says, at every point of every list. n is the number of pages. Assumes nothing.
use Prim.Native.Nat.{ℕ, ◌+◌, ◌≤◌, ◌<◌}
use native.Mathlib.Omega.{arith}
use mathlib.Core.Path.{◌≡◌, refl, sym, ap, ◌∙◌}
use mathlib.Core.Bool.{Bool, true, false, not, ◌&&◌, ◌||◌}
use mathlib.Core.List.{List}
use mathlib.Core.Logic.{inl, inr}
use lib.ListN.{length, replicate}
use lib.Seq.{get_or-set_other}
use lib.Dec.{eqb, ltb}
use Rattle.words.specs.Tests.{by_bool, or_true, or_false}
use Rattle.words.specs.Spans.{zero_at}
use Rattle.pages.specs.Geometry.{page_words, slot_words}
use Rattle.records.specs.Records.{txn_count}
use Rattle.areas.specs.Answers.{accepted}
use Rattle.areas.specs.Areas.{Areas, Out}
use Rattle.areas.specs.Layout.{phase_at, reopening_at, reopening_page_at, finished, table_words, undoing_at, work_words, mark_count}
use Rattle.areas.specs.Tables.{at}
use Rattle.areas.specs.Entry.{pages, records}
use Rattle.calls.specs.Calls.{Call, perform}
use Rattle.calls.specs.Calls.Call.{begin, commit, abort, grant, lock_read, lock_write, read, create, set_word, flush, force, store, empty, pass, step, reopen, restep, mark, back, look}
use Rattle.calls.specs.Formatting.{formatted, cut}
use Rattle.calls.specs.Locks.{read_locked, write_locked}
use Rattle.calls.specs.Objects.{created, word_set, flushed}
use Rattle.calls.specs.Pass.{call_step}
use Rattle.calls.specs.Reopening.{reopened, page_stored, reopening_over, call_restep}
use Rattle.calls.specs.Transactions.{begun, ended_tables, committed, aborted}
use Rattle.calls.specs.Stability.{emptied}
use Rattle.calls.specs.Marks.{mark_set, back_to}
use Rattle.acceptance.specs.Calls.{refused_keeps}
use Rattle.acceptance.specs.Entered.{Open, opened}
use Rattle.acceptance.specs.Transactions.{begin_outcome, begin_facts, commit_outcome, abort_outcome}
use Rattle.acceptance.specs.Rights.{grant_outcome}
use Rattle.acceptance.specs.Locks.{lock_read_outcome, lock_read_facts, lock_write_outcome, lock_write_facts}
use Rattle.acceptance.specs.Objects.{read_outcome, read_facts, create_outcome, create_facts, set_outcome, set_facts, flush_outcome, flush_facts}
use Rattle.acceptance.specs.Stability.{force_outcome, store_outcome, empty_outcome}
use Rattle.acceptance.specs.Marks.{mark_outcome, mark_facts, back_outcome, back_facts}
use Rattle.acceptance.specs.Looks.{look_keeps}
use Rattle.acceptance.specs.Pass.{pass_outcome, step_outcome, step_facts, step_way, StepWay, scans, turns, sweeps, stepped}
use Rattle.acceptance.specs.Reopening.{reopen_ran}
use Rattle.book.specs.Books as Books
use Rattle.book.specs.Books.{Book}
use Rattle.book.specs.Feeding.{fed}
use Rattle.book.specs.Demand.{Event, call, power, Point, accepts, after, start}
use Rattle.collector.specs.Bits as Bits
use Rattle.collector.specs.Bits.{◌and◌, ◌or◌}
use Rattle.collector.specs.State.{Locks}
use Rattle.machine_calls.specs.Tables.{locks_of}
use Rattle.machine_calls.proofs.Begun.{begin_locks}
use Rattle.machine_calls.proofs.Created.{create_locks}
use Rattle.machine_calls.proofs.Ended.{ended_locks}
use Rattle.machine_calls.proofs.Flushed.{flush_locks}
use Rattle.machine_calls.proofs.Frames.{beside_set, beside_fill, locks_kept}
use Rattle.machine_calls.proofs.Learned.{read_locks}
use Rattle.machine_calls.proofs.Locking.{lock_read_locks, lock_write_locks}
use Rattle.machine_calls.proofs.TakenBack.{dropped_beside}
use Rattle.machine_calls.proofs.Written.{set_locks}
use Rattle.machine_pass.proofs.Start.{start_locks}
use Rattle.demand.proofs.State.{OpenInv, Inv3}
use Rattle.demand.proofs.Holds.{sweeping_phase}
use Rattle.demand.proofs.HoldsWaiting.{step_entered, storing_opened}
use Rattle.demand.proofs.Marks.{mark_beside, gone}
use Rattle.demand.proofs.Rights.{grant_beside}
use Rattle.demand.proofs.Passing.{scan_same, turn_same, advance_same}
use Rattle.demand.proofs.Rest.{no_locks}
use Rattle.guarantees.specs.Disks.{from_disk}
use Rattle.guarantees.specs.Ledgers.{kept}
use Rattle.guarantees.specs.Holders.{Granted, nothing, fallen, granting, grants, holds}
use Rattle.guarantees.proofs.Always.{Sure, as_storing}
use Rattle.guarantees.proofs.Through.{through}
use Rattle.guarantees.proofs.Closing.{here, closed_after}

pub record Agrees (n : ℕ) (w : List ℕ) (l : Granted) : Type 0 where
  pub writers : (u p : ℕ) → l.writes u p ≡ (locks_of w n).wr u p
  pub holders : (u p : ℕ) → holds l u p ≡ ((locks_of w n).rd u p || (locks_of w n).wr u p)

-- the tables of locks stay
agrees_same : (n : ℕ) (w v : List ℕ) (l : Granted) → (locks_of v n).rd ≡ (locks_of w n).rd → (locks_of v n).wr ≡ (locks_of w n).wr → Agrees n w l → Agrees n v l
agrees_same n w v l e d a = record { writers = λ u p. rw d (a.writers u p); holders = λ u p. rw (e, d) (a.holders u p) }

kept_locks : (n : ℕ) (w v : List ℕ) (l : Granted) → locks_of v n ≡ locks_of w n → Agrees n w l → Agrees n v l
kept_locks n w v l e = agrees_same n w v l (ap (λ (k : Locks). k.rd) e) (ap (λ (k : Locks). k.wr) e)

-- clear tables
clear_agrees : (n : ℕ) (w : List ℕ) → ((i : ℕ) → 2 ≤ i → at w i ≡ 0) → Agrees n w nothing
clear_agrees n w clear = let e = no_locks n w clear in record {
  writers = λ u p. sym (ap (λ (k : Locks). k.wr u p) e);
  holders = λ u p. sym (ap (λ (k : Locks). k.rd u p || k.wr u p) e);
}

-- the bits of one transaction and page: r, w by the ledger, x, y by the masks; a, b: they are those of the call
read_bits : (r w x a b : Bool) → (r || w) ≡ (x || w) → ((r || (a && b)) || w) ≡ ((x or (a and b and not w)) || w)
unfolding ◌and◌ ◌or◌
read_bits r true x a b h = or_true (r || (a && b)) ∙ sym (or_true (x or (a and b and not true)))
read_bits r false x true true h = rw (or_true r, Bits.or_true x)
read_bits r false x true false h = rw (or_false r, Bits.or_false x) h
read_bits r false x false b h = rw (or_false r, Bits.or_false x) h

write_bits : (w y a b : Bool) → w ≡ y → (w || (a && b)) ≡ (y or (a and b))
unfolding ◌and◌ ◌or◌
write_bits w y true true h = rw (or_true w, Bits.or_true y)
write_bits w y true false h = rw (or_false w, Bits.or_false y) h
write_bits w y false b h = rw (or_false w, Bits.or_false y) h

hold_bits : (r w x y a b : Bool) → (r || w) ≡ (x || y) → (r || (w || (a && b))) ≡ ((not (a and b) and x) || (y or (a and b)))
unfolding ◌and◌ ◌or◌
hold_bits r w x y true true h = rw (or_true w, Bits.or_true y, or_true r)
hold_bits r w x y true false h = rw (or_false w, Bits.or_false y) h
hold_bits r w x y false b h = rw (or_false w, Bits.or_false y) h

end_bits : (c r w x y : Bool) → (r || w) ≡ (x || y) → ((c && r) || (c && w)) ≡ ((c and x) || (c and y))
unfolding ◌and◌
end_bits true r w x y h = h
end_bits false r w x y h = refl

end_bit : (c w y : Bool) → w ≡ y → (c && w) ≡ (c and y)
unfolding ◌and◌
end_bit true w y h = h
end_bit false w y h = refl

-- locks and ends
module _ (n : ℕ) (w : List ℕ) (l : Granted) (a : Agrees n w l) (len : table_words n ≤ length w) (t : ℕ) where
  read_agrees : (p : ℕ) → p < n → t < txn_count → Agrees n (read_locked w n t p) (granting l (lock_read t p))
  read_agrees p h small = let e = lock_read_locks w n t p h len small in record {
    writers = λ u q. a.writers u q ∙ sym (ap (λ (k : Locks). k.wr u q) e);
    holders = λ u q. rw (a.writers u q) (read_bits (l.reads u q) ((locks_of w n).wr u q) ((locks_of w n).rd u q) (eqb u t) (eqb q p) (rw (a.writers u q) at (a.holders u q)))
        ∙ sym (ap (λ (k : Locks). k.rd u q || k.wr u q) e);
  }

  write_agrees : (p : ℕ) → p < n → t < txn_count → Agrees n (write_locked w n t p) (granting l (lock_write t p))
  write_agrees p h small = let e = lock_write_locks w n t p h len small in record {
    writers = λ u q. write_bits (l.writes u q) ((locks_of w n).wr u q) (eqb u t) (eqb q p) (a.writers u q) ∙ sym (ap (λ (k : Locks). k.wr u q) e);
    holders = λ u q. hold_bits (l.reads u q) (l.writes u q) ((locks_of w n).rd u q) ((locks_of w n).wr u q) (eqb u t) (eqb q p) (a.holders u q)
        ∙ sym (ap (λ (k : Locks). k.rd u q || k.wr u q) e);
  }

  end_agrees : Agrees n (ended_tables w n t) (fallen l t)
  end_agrees = let e = ended_locks w n t len in record {
    writers = λ u q. end_bit (not (eqb u t)) (l.writes u q) ((locks_of w n).wr u q) (a.writers u q) ∙ sym (ap (λ (k : Locks). k.wr u q) e);
    holders = λ u q. end_bits (not (eqb u t)) (l.reads u q) (l.writes u q) ((locks_of w n).rd u q) ((locks_of w n).wr u q) (a.holders u q)
        ∙ sym (ap (λ (k : Locks). k.rd u q || k.wr u q) e);
  }

-- a pass step
step_agrees : (n : ℕ) → 1 ≤ n → (s : Areas) (b : Book) → OpenInv n s b → Open s n → (at s.work phase_at ≡ 0 → ⊥) → (l : Granted) → Agrees n s.work l → (o : Out) → StepWay s n o → Agrees n o.after.work l
step_agrees n some s b i h ph l a o (scans m g d) = rw d (kept_locks n s.work _ l (scan_same n some s b i h m g) a)
step_agrees n some s b i h ph l a o (turns m g d) = rw d (kept_locks n s.work _ l (turn_same n some s b i h m) a)
step_agrees n some s b i h ph l a o (sweeps m c d) = rw d (kept_locks n s.work _ l (advance_same n some s b i h (sweeping_phase (at s.work phase_at) ph m)) a)

-- a reopen, and its steps
pub reopen_clear : (s : Areas) (j : ℕ) → 2 ≤ j → at (reopened s).work j ≡ 0
unfolding reopened
reopen_clear s j h = get_or-set_other (replicate (length s.work) 0) 0 j 1 0 (λ z. omega arith) ∙ zero_at (length s.work) j

emptied_locks : (n : ℕ) (s : Areas) → locks_of (emptied s n).work n ≡ locks_of s.work n
emptied_locks n s = locks_kept (beside_fill (λ j. 0) s.work (undoing_at n 0) (records s)) n (inr (omega arith))

restep_agrees : (n : ℕ) → 1 ≤ n → (s : Areas) (b : Book) → Inv3 n s b → accepted (call_restep s).answer ≡ true → (l : Granted) → Agrees n s.work l → Agrees n (call_restep s).after.work l
unfolding page_stored reopening_over
restep_agrees n some s b v r l a =
    let k = (as_storing n s b v r).0 in
    let i = (as_storing n s b v r).1 in
    let p = at s.work reopening_page_at in
    let g = (step_entered n some s b k i r).1 in
    by_bool (ltb p n)
    (λ e. let d : (call_restep s).after ≡ page_stored s p = g ∙ rw e refl in rw d (kept_locks n s.work _ l (locks_kept (beside_set s.work reopening_page_at (p + 1)) n (inl (omega arith))) a))
    (λ e. let d : (call_restep s).after ≡ reopening_over s n = g ∙ rw e refl in
    rw d (kept_locks n s.work _ l (locks_kept (beside_set _ reopening_page_at 0) n (inl (omega arith)) ∙ locks_kept (beside_set (emptied s n).work reopening_at finished) n (inl (omega arith)) ∙ emptied_locks n s) a))

-- where the store is not open nobody has a page
abbrev pub Closed : Book → Granted → Type 0
Closed b l = (b.stage ≡ Books.opened → ⊥) → (u p : ℕ) → holds l u p ≡ false

-- every accepted call
module _ (n : ℕ) (some : 1 ≤ n) (s : Areas) (b : Book) (v : Inv3 n s b) (l : Granted) (g : Agrees n s.work l) where
  abbrev Leaves : Granted → Areas → Type 0
  Leaves k x = Agrees n x.work k

  pub accepted_agrees : (c : Call) → accepted (perform s c).answer ≡ true → Agrees n (perform s c).after.work (granting l c)
  unfolding perform begun committed aborted created word_set flushed mark_set back_to
  accepted_agrees (begin t c) a = through true s _ _ _ n (Leaves l) (begin_outcome s t c) a (here n some s b v (begin t c) refl a).size
      (λ h k. let e = begin_locks s.work n t some c (begin_facts s n t c k).txn h.sized.tables.1 in agrees_same n s.work _ l (ap (λ (k : Locks). k.rd) e) (ap (λ (k : Locks). k.wr) e) g)
  accepted_agrees (commit t) a = through true s _ _ _ n (Leaves (fallen l t)) (commit_outcome s t) a (here n some s b v (commit t) refl a).size (λ h k. end_agrees n s.work l g h.sized.tables.1 t)
  accepted_agrees (abort t) a = through true s _ _ _ n (Leaves (fallen l t)) (abort_outcome s t) a (here n some s b v (abort t) refl a).size (λ h k. end_agrees n s.work l g h.sized.tables.1 t)
  accepted_agrees (grant c p r) a = through true s _ _ _ n (Leaves l) (grant_outcome s c p r) a (here n some s b v (grant c p r) refl a).size
      (λ h k. kept_locks n s.work _ l (locks_kept (grant_beside s.work n c p r) n (inr (omega arith))) g)
  accepted_agrees (lock_read t p) a = through true s _ _ _ n (Leaves (granting l (lock_read t p))) (lock_read_outcome s t p) a (here n some s b v (lock_read t p) refl a).size
      (λ h k. let f = lock_read_facts s n t p k in read_agrees n s.work l g h.sized.tables.1 t p f.page f.txn)
  accepted_agrees (lock_write t p) a = through true s _ _ _ n (Leaves (granting l (lock_write t p))) (lock_write_outcome s t p) a (here n some s b v (lock_write t p) refl a).size
      (λ h k. let f = lock_write_facts s n t p k in write_agrees n s.work l g h.sized.tables.1 t p f.page f.txn)
  accepted_agrees (read t x buffer) a = through (eqb (length buffer) slot_words) s _ _ _ n (Leaves l) (read_outcome s t x buffer) a (here n some s b v (read t x buffer) refl a).size
      (λ h k. let f = read_facts s n t x k in kept_locks n s.work _ l (read_locks s.received s.work n t x h.ranged.received_sound f.object.low f.object.top) g)
  accepted_agrees (create t x) a = through true s _ _ _ n (Leaves l) (create_outcome s t x) a (here n some s b v (create t x) refl a).size
      (λ h k. let f = create_facts s n t x k in kept_locks n s.work _ l (create_locks s.work n t x f.object.low f.object.top) g)
  accepted_agrees (set_word t x f y) a = through true s _ _ _ n (Leaves l) (set_outcome s t x f y) a (here n some s b v (set_word t x f y) refl a).size
      (λ h k. let d = set_facts s n t x f y k in kept_locks n s.work _ l (set_locks s.received s.work n t x f y h.ranged.received_sound d.object.low d.object.top d.field) g)
  accepted_agrees (flush t p image) a = through (eqb (length image) page_words) s _ _ _ n (Leaves l) (flush_outcome s t p image) a (here n some s b v (flush t p image) refl a).size
      (λ h k. kept_locks n s.work _ l (flush_locks s.work n t p (flush_facts s n t p image k).page) g)
  accepted_agrees force a = through true s _ _ _ n (Leaves l) (force_outcome s) a (here n some s b v force refl a).size (λ h k. g)
  accepted_agrees (store p) a = through true s _ _ _ n (Leaves l) (store_outcome s p) a (here n some s b v (store p) refl a).size (λ h k. g)
  accepted_agrees empty a = through true s _ _ _ n (Leaves l) (empty_outcome s) a (here n some s b v empty refl a).size (λ h k. kept_locks n s.work _ l (emptied_locks n s) g)
  accepted_agrees pass a = through true s _ _ _ n (Leaves l) (pass_outcome s) a (here n some s b v pass refl a).size (λ h k. kept_locks n s.work _ l (start_locks n s.work h.sized.tables.1 some) g)
  accepted_agrees step a = let i = here n some s b v step refl a in
      let k = (step_outcome s).ran a in
      let p = opened true s k.n k.ready in
      let e : k.n ≡ n = sym p.sized.count ∙ i.size in
      let d : call_step s ≡ stepped s n = k.gives ∙ ap (stepped s) e in
      step_agrees n some s b i (rw e at p) (step_facts s k.passed).one_runs l g (call_step s) (step_way s n (call_step s) a d)
  accepted_agrees reopen a = rw (ap (λ (x : Out). x.after.work) (reopen_ran s a).gives) (clear_agrees n _ (reopen_clear s))
  accepted_agrees restep a = restep_agrees n some s b v a l g
  accepted_agrees (mark t m) a = through true s _ _ _ n (Leaves l) (mark_outcome s t m) a (here n some s b v (mark t m) refl a).size
      (λ h k. let f = mark_facts s t m k in
      kept_locks n s.work _ l (locks_kept (mark_beside s.work n t m _ f.txn f.mark (let e = h.sized.work_len in omega arith)) n (inr (omega arith))) g)
  accepted_agrees (back t m) a = let i = here n some s b v (back t m) refl a in through true s _ _ _ n (Leaves l) (back_outcome s t m) a i.size
      (λ h k. let f = back_facts s n t m k in
      kept_locks n s.work _ l (locks_kept (dropped_beside _ n t _ mark_count f.txn (omega arith)) n (inr (omega arith)) ∙ (gone n some s b i h t m f).locks) g)
  accepted_agrees (look q) a = rw (look_keeps s q) g

  accepted_closed : Closed b l → (c : Call) → accepted (perform s c).answer ≡ true → (r : List ℕ) → Closed (fed n b c s.received r) (granting l c)
  unfolding perform
  accepted_closed f = closed_after n some s b v (λ c. (u p : ℕ) → holds (granting l c) u p ≡ false) (λ a u p. refl)
      (λ a. f (λ e. storing_opened (sym (as_storing n s b v a).1.stage ∙ e)))

-- the invariant: the masks are the ledger's, and where the store is not open nobody has a page
pub record Ledgered (n : ℕ) (q : Point) (l : Granted) : Type 0 where
  pub agrees : Agrees n q.store.work l
  pub closed : Closed q.book l

pub keep_ledger : (n : ℕ) → 1 ≤ n → (q : Point) (l : Granted) (e : Event) → Sure n q → Ledgered n q l → Ledgered n (after n q e) (kept grants q l e)
unfolding after kept cut
keep_ledger n some q l (call c) u j = by_bool (accepts q c)
    (λ a. rw a (record { agrees = accepted_agrees n some q.store q.book u.inv l j.agrees c a; closed = accepted_closed n some q.store q.book u.inv l j.agrees j.closed c a _ }))
    (λ a. rw (a, refused_keeps q.store c a) j)
keep_ledger n some q l power u j = record { agrees = clear_agrees n _ (λ i h. zero_at (length q.store.work) i); closed = λ shut u p. refl }

pub start_ledger : (n k : ℕ) → Ledgered n (start n k) nothing
unfolding formatted
start_ledger n k = record {
  agrees = clear_agrees n _ (λ i h. get_or-set_other (replicate (work_words n k) 0) 0 i 2 0 (λ z. omega arith) ∙ zero_at (work_words n k) i);
  closed = λ shut u p. refl;
}

pub disk_ledger : (s : Areas) → Ledgered (pages s) (from_disk s) nothing
unfolding cut
disk_ledger s = record { agrees = clear_agrees (pages s) _ (λ i h. zero_at (length s.work) i); closed = λ shut u p. refl }
