-- The words of clients and rights are what the ledger of rights says, and who has a lock has its right, at every point of every list. n is
-- the number of pages. Assumes nothing.
use Prim.Native.Nat.{ℕ, ◌+◌, ◌-◌, ◌≤◌, ◌<◌}
use native.Mathlib.Omega.{arith}
use native.Mathlib.Decide.{ℕ_discrete}
use mathlib.Core.Path.{◌≡◌, refl, sym, ap, ◌∙◌}
use mathlib.Core.Bool.{Bool, true, false, not, ◌&&◌, ◌||◌}
use mathlib.Core.List.{List}
use mathlib.Core.Logic.{inl, inr}
use lib.ListN.{length, set, replicate}
use lib.Seq.{get_or-set_same, get_or-set_other}
use lib.Dec.{eqb, leb, ltb}
use borrow.Author.Tests.{eq-eqb, eqb-true, ne_eqb, leb-true}
use Rattle.words.specs.Tests.{by_bool, clash, and_split, or_l, or_r, or_cases, any_intro}
use Rattle.words.specs.Spans.{zero_at}
use Rattle.pages.specs.Geometry.{page_words, slot_words}
use Rattle.records.specs.Records.{txn_count}
use Rattle.areas.specs.Answers.{accepted}
use Rattle.areas.specs.Areas.{Areas, Out}
use Rattle.areas.specs.Layout.{reopening_at, reopening_page_at, finished, phase_at, mark_count, client_count, clients_from, client_at, right_at, reading, writing, undoing_from, undoing_at, work_words}
use Rattle.areas.specs.Tables.{at, is_active}
use Rattle.areas.specs.Entry.{pages, records}
use Rattle.calls.specs.Calls.{Call, perform}
use Rattle.calls.specs.Calls.Call.{begin, commit, abort, grant, lock_read, lock_write, read, create, set_word, flush, force, store, empty, pass, step, reopen, restep, mark, back, look}
use Rattle.calls.specs.Formatting.{formatted, cut}
use Rattle.calls.specs.Marks.{mark_set, back_to}
use Rattle.calls.specs.Objects.{created, word_set, flushed}
use Rattle.calls.specs.Pass.{call_step}
use Rattle.calls.specs.Reopening.{page_stored, reopening_over, call_restep}
use Rattle.calls.specs.Rights.{client_of, may_lock, has_active, right_given}
use Rattle.calls.specs.Stability.{emptied}
use Rattle.calls.specs.Transactions.{begun_tables, begun, ended_tables, committed, aborted}
use Rattle.acceptance.specs.Calls.{refused_keeps}
use Rattle.acceptance.specs.Entered.{Open, opened}
use Rattle.acceptance.specs.Working.{client_in}
use Rattle.acceptance.specs.Looks.{look_keeps}
use Rattle.acceptance.specs.Transactions.{begin_outcome, begin_facts, BeginFacts, commit_outcome, commit_facts, abort_outcome, abort_facts}
use Rattle.acceptance.specs.Rights.{grant_outcome, grant_facts, GrantFacts}
use Rattle.acceptance.specs.Locks.{lock_read_outcome, lock_read_facts, LockReadFacts, lock_write_outcome, lock_write_facts, LockWriteFacts}
use Rattle.acceptance.specs.Objects.{read_outcome, read_facts, create_outcome, create_facts, set_outcome, set_facts, flush_outcome, flush_facts}
use Rattle.acceptance.specs.Stability.{force_outcome, store_outcome, empty_outcome}
use Rattle.acceptance.specs.Marks.{mark_outcome, mark_facts, back_outcome, back_facts}
use Rattle.acceptance.specs.Pass.{pass_outcome, step_outcome, step_facts, step_way, StepWay, scans, turns, sweeps, stepped}
use Rattle.acceptance.specs.Reopening.{reopen_ran}
use Rattle.book.specs.Books.{Book}
use Rattle.book.specs.Lines.{left}
use Rattle.book.specs.Feeding.{put, begins, fed}
use Rattle.book.specs.Demand.{Event, call, power, Point, accepts, after, start}
use Rattle.machine_calls.proofs.Begun.{begin_behind, begin_client}
use Rattle.machine_calls.proofs.Created.{create_beside}
use Rattle.machine_calls.proofs.Ended.{ended_others}
use Rattle.machine_calls.proofs.Facts.{act_is}
use Rattle.machine_calls.proofs.Flushed.{flush_beside}
use Rattle.machine_calls.proofs.Frames.{beside_fill}
use Rattle.machine_calls.proofs.Learned.{read_beside}
use Rattle.machine_calls.proofs.Locking.{lock_read_beside, lock_write_beside}
use Rattle.machine_calls.proofs.TakenBack.{dropped_beside}
use Rattle.machine_calls.proofs.Written.{set_beside}
use Rattle.book_laws.specs.Keeping.{Runs}
use Rattle.book_laws.proofs.GoingBack.{went_running}
use Rattle.demand.proofs.State.{machine, OpenInv, Inv3}
use Rattle.demand.proofs.Change.{machine_shows}
use Rattle.demand.proofs.Holds.{sweeping_phase}
use Rattle.demand.proofs.HoldsWaiting.{step_entered}
use Rattle.demand.proofs.Marks.{mark_beside, gone}
use Rattle.demand.proofs.Passing.{start_beside, scan_behind, turn_behind, advance_behind}
use Rattle.guarantees.specs.Disks.{from_disk}
use Rattle.guarantees.specs.Ledgers.{both, kept}
use Rattle.guarantees.specs.Permits.{Permits, no_rights, permitting, permits, right_of}
use Rattle.guarantees.specs.Holders.{Granted, nothing, fallen, granting, grants, holds}
use Rattle.guarantees.proofs.Fine.{Fine}
use Rattle.guarantees.proofs.Always.{Sure, as_storing}
use Rattle.guarantees.proofs.Through.{through}
use Rattle.guarantees.proofs.Closing.{here}
use Rattle.guarantees.proofs.Granted.{Agrees, Ledgered, reopen_clear, keep_ledger, start_ledger, disk_ledger}
use Rattle.guarantees.proofs.Holders.{active_in, active_bit, open_word, runs_so}

-- w: the working words, g: the ledger of locks, l: that of rights
pub record Permitted (n : ℕ) (w : List ℕ) (b : Book) (g : Granted) (l : Permits) : Type 0 where
  pub rights : (c p : ℕ) → c < client_count → p < n → at w (right_at n c p) ≡ l.right c p
  pub clients : (t : ℕ) → t < txn_count → Runs b t → at w (client_at n t) ≡ l.client t
  pub reads : (t p : ℕ) → holds g t p ≡ true → reading ≤ right_of l t p
  pub writes : (t p : ℕ) → g.writes t p ≡ true → writing ≤ right_of l t p

-- the words of clients and rights stay
abbrev Stay : ℕ → List ℕ → List ℕ → Type 0
Stay n w v = (j : ℕ) → clients_from n ≤ j → j < undoing_from n → at v j ≡ at w j

quietly : (n : ℕ) (w v : List ℕ) (b b' : Book) (g : Granted) (l : Permits) → Stay n w v → b'.running ≡ b.running → Permitted n w b g l → Permitted n v b' g l
quietly n w v b b' g l e r i = record {
  rights = λ c p a d. e (right_at n c p) (omega arith) (omega arith) ∙ i.rights c p a d;
  clients = λ t a u. e (client_at n t) (omega arith) (omega arith) ∙ i.clients t a (rw r at u);
  reads = i.reads;
  writes = i.writes;
}

-- clear tables
clearly : (n : ℕ) (w : List ℕ) (b : Book) → ((i : ℕ) → 2 ≤ i → at w i ≡ 0) → Permitted n w b nothing no_rights
clearly n w b clear = record {
  rights = λ c p a d. clear (right_at n c p) (omega arith);
  clients = λ t a r. clear (client_at n t) (omega arith);
  reads = λ t p e. clash e refl;
  writes = λ t p e. clash e refl;
}

-- the right that a lock asks for, by the ledger
module _ (n : ℕ) (s : Areas) (b : Book) (i : OpenInv n s b) (z : Fine n s b) (g : Granted) (a : Agrees n s.work g) (l : Permits) (j : Permitted n s.work b g l) where
  pub right_by : (t p right : ℕ) → Runs b t → p < n → may_lock s.work n t p right ≡ leb right (right_of l t p)
  unfolding may_lock
  right_by t p right r below = let small = active_in n s b i z g a t r in
      ap (leb right) (j.rights (client_of s.work n t) p (client_in s.work n (records s) t (open_word n s b i z g a) small) below ∙ ap (λ (c : ℕ). l.right c p) (j.clients t small r))

-- an open store
module _ (n : ℕ) (some : 1 ≤ n) (s : Areas) (b : Book) (i : OpenInv n s b) (z : Fine n s b) (h : Open s n) (g : Granted) (a : Agrees n s.work g) (l : Permits) (j : Permitted n s.work b g l) where
  abbrev w : List ℕ
  w = s.work

  len : undoing_from n ≤ length w
  len = let e = h.sized.work_len in omega arith

  runs : (t p : ℕ) → holds g t p ≡ true → Runs b t
  runs = runs_so n s b i z g a

  -- a begin: t had no lock
  begun_permitted : (t c : ℕ) → BeginFacts s n t c → Permitted n (begun_tables w n t c) (begins b t) g (permitting l (begin t c))
  begun_permitted t c f = record {
    rights = λ d p x y. let small = f.txn in begin_behind w n t some c f.txn (right_at n d p) (omega arith) (λ e. omega arith) ∙ j.rights d p x y;
    clients = λ u x r. elim (ℕ_discrete u t) [
      | yes e ↦ rw (e, eq-eqb t t refl) (begin_client w n t some c f.txn (let e = len in omega arith))
      | no e ↦ rw (ne_eqb u t e) (begin_behind w n t some c f.txn (client_at n u) (omega arith) (λ d. e (omega arith)) ∙ j.clients u x (rw (ne_eqb u t e) at r))
    ];
    reads = λ u p e. rw (right_of, ne_eqb u t (lockless u p e)) (j.reads u p e);
    writes = λ u p e. rw (right_of, ne_eqb u t (lockless u p (or_r (g.reads u p) (g.writes u p) e))) (j.writes u p e);
  }
    where
      idle : b.running t ≡ 0
      idle = elim (ℕ_discrete (b.running t) 0) [ yes e ↦ e | no e ↦ clash (i.runs t e) (act_is s n (machine n s b) (machine_shows n s b) t f.txn ∙ f.inactive) ]

      lockless : (u p : ℕ) → holds g u p ≡ true → u ≡ t → ⊥
      lockless u p e d = runs u p e (rw d idle)

  -- an end
  ended_permitted : (t : ℕ) → t < txn_count → (b' : Book) → ((u : ℕ) → Runs b' u → (u ≡ t → ⊥) × Runs b u) → Permitted n (ended_tables w n t) b' (fallen g t) l
  ended_permitted t small b' r = record {
    rights = λ c p x y. ended_others w n t (right_at n c p) (omega arith) (λ e. omega arith) (λ m k. (λ e. omega arith, λ e. omega arith)) ∙ j.rights c p x y;
    clients = λ u x k. ended_others w n t (client_at n u) (omega arith) (λ e. (r u k).0 (omega arith)) (λ m d. (λ e. omega arith, λ e. omega arith)) ∙ j.clients u x (r u k).1;
    reads = λ u p e. j.reads u p (falls u p (not (eqb u t)) e);
    writes = λ u p e. j.writes u p (and_split (not (eqb u t)) (g.writes u p) e).1;
  }
    where
      falls : (u p : ℕ) (c : Bool) → (c && g.reads u p) || (c && g.writes u p) ≡ true → holds g u p ≡ true
      falls u p true e = e
      falls u p false e = clash e refl

  -- a right given: nobody with a lock is that client's
  granted_permitted : (c p r : ℕ) → GrantFacts s n c p r → Permitted n (right_given w n c p r) b g (permitting l (grant c p r))
  unfolding right_given has_active
  granted_permitted c p r f = record {
    rights = λ d q x y. elim (ℕ_discrete d c) [
      | yes e ↦ elim (ℕ_discrete q p) [
        | yes k ↦ rw (e, k, eq-eqb c c refl, eq-eqb p p refl) (get_or-set_same w (right_at n c p) r 0 (let u = f.client in let v = f.page in let o = len in omega arith))
        | no k ↦ rw (e, eq-eqb c c refl, ne_eqb q p k) (get_or-set_other w (right_at n c p) (right_at n c q) r 0 (λ o. k (omega arith)) ∙ j.rights c q f.client y)
      ]
      | no e ↦ rw (ne_eqb d c e) (let u = f.client in get_or-set_other w (right_at n c p) (right_at n d q) r 0 (λ o. e (omega arith)) ∙ j.rights d q x y)
    ];
    clients = λ t x k. get_or-set_other w (right_at n c p) (client_at n t) r 0 (λ o. omega arith) ∙ j.clients t x k;
    reads = λ t q e. rw (ne_eqb (l.client t) c (other t (runs t q e))) (j.reads t q e);
    writes = λ t q e. rw (ne_eqb (l.client t) c (other t (runs t q (or_r (g.reads t q) (g.writes t q) e)))) (j.writes t q e);
  }
    where
      other : (t : ℕ) → Runs b t → l.client t ≡ c → ⊥
      other t r e = let small = active_in n s b i z g a t r in
          clash (any_intro (λ u. is_active w u && eqb (client_of w n u) c) txn_count t small (rw (active_bit n s b i z g a t r) (eq-eqb (client_of w n t) c (j.clients t small r ∙ e)))) f.idle

  active_runs : (t : ℕ) → t < txn_count → is_active w t ≡ true → Runs b t
  active_runs t small e = i.active t (act_is s n (machine n s b) (machine_shows n s b) t small ∙ e)

  -- the right that a lock was let through with
  may : (t p right : ℕ) → t < txn_count → is_active w t ≡ true → p < n → may_lock w n t p right ≡ true → right ≤ right_of l t p
  may t p right small e below m = leb-true right (right_of l t p) (sym (right_by n s b i z g a l j t p right (active_runs t small e) below) ∙ m)

  -- the one entry that it adds
  added : (t p right : ℕ) → right ≤ right_of l t p → (u q : ℕ) → eqb u t && eqb q p ≡ true → right ≤ right_of l u q
  added t p right m u q e = let x = and_split (eqb u t) (eqb q p) e in rw (eqb-true u t x.0, eqb-true q p x.1) m

  read_permitted : (t p : ℕ) → LockReadFacts s n t p → (v : List ℕ) → Stay n w v → Permitted n v b (granting g (lock_read t p)) l
  read_permitted t p f v e = let k = quietly n w v b b g l e refl j in record {
    rights = k.rights;
    clients = k.clients;
    reads = λ u q d. elim (or_cases (g.reads u q || (eqb u t && eqb q p)) (g.writes u q) d) [
      | inl c ↦ elim (or_cases (g.reads u q) (eqb u t && eqb q p) c) [
        | inl o ↦ j.reads u q (or_l (g.reads u q) (g.writes u q) o)
        | inr o ↦ added t p reading (may t p reading f.txn f.active f.page f.right) u q o
      ]
      | inr o ↦ j.reads u q (or_r (g.reads u q) (g.writes u q) o)
    ];
    writes = j.writes;
  }

  write_permitted : (t p : ℕ) → LockWriteFacts s n t p → (v : List ℕ) → Stay n w v → Permitted n v b (granting g (lock_write t p)) l
  write_permitted t p f v e = let k = quietly n w v b b g l e refl j in let m = may t p writing f.txn f.active f.page f.right in record {
    rights = k.rights;
    clients = k.clients;
    reads = λ u q d. elim (or_cases (g.reads u q) (g.writes u q || (eqb u t && eqb q p)) d) [
      | inl o ↦ j.reads u q (or_l (g.reads u q) (g.writes u q) o)
      | inr c ↦ elim (or_cases (g.writes u q) (eqb u t && eqb q p) c) [
        | inl o ↦ j.reads u q (or_r (g.reads u q) (g.writes u q) o)
        | inr o ↦ added t p reading (omega arith) u q o
      ]
    ];
    writes = λ u q d. elim (or_cases (g.writes u q) (eqb u t && eqb q p) d) [ inl o ↦ j.writes u q o | inr o ↦ added t p writing m u q o ];
  }

-- a pass step
step_stays : (n : ℕ) → 1 ≤ n → (s : Areas) (b : Book) → OpenInv n s b → Open s n → (at s.work phase_at ≡ 0 → ⊥) → (o : Out) → StepWay s n o → Stay n s.work o.after.work
step_stays n some s b i h ph o (scans m c d) = rw d (λ x l u. scan_behind n some s b i h m c x (omega arith))
step_stays n some s b i h ph o (turns m c d) = rw d (λ x l u. turn_behind n some s b i h m x (omega arith))
step_stays n some s b i h ph o (sweeps m c d) = rw d (λ x l u. advance_behind n some s b i h (sweeping_phase (at s.work phase_at) ph m) x (omega arith))

-- a reopening's step
restep_stays : (n : ℕ) → 1 ≤ n → (s : Areas) (b : Book) → Inv3 n s b → accepted (call_restep s).answer ≡ true → Stay n s.work (call_restep s).after.work
unfolding page_stored reopening_over
restep_stays n some s b v a x l u =
    let k = (as_storing n s b v a).0 in
    let i = (as_storing n s b v a).1 in
    let p = at s.work reopening_page_at in
    let g = (step_entered n some s b k i a).1 in
    by_bool (ltb p n)
    (λ e. let d : (call_restep s).after ≡ page_stored s p = g ∙ rw e refl in rw d (get_or-set_other s.work reopening_page_at x (p + 1) 0 (λ z. omega arith)))
    (λ e. let d : (call_restep s).after ≡ reopening_over s n = g ∙ rw e refl in
    rw d (get_or-set_other (set (emptied s n).work reopening_at finished) reopening_page_at x 0 0 (λ z. omega arith) ∙ get_or-set_other (emptied s n).work reopening_at x finished 0 (λ z. omega arith)
    ∙ (beside_fill (λ j. 0) s.work (undoing_at n 0) (records s)).below x (omega arith)))

-- every accepted call
module _ (n : ℕ) (some : 1 ≤ n) (s : Areas) (b : Book) (v : Inv3 n s b) (z : Fine n s b) (g : Granted) (y : Agrees n s.work g) (l : Permits) (j : Permitted n s.work b g l) where
  abbrev Leaves : Book → Granted → Permits → Areas → Type 0
  Leaves d k m x = Permitted n x.work d k m

  -- the words stay, and who runs does
  same : (d : Book) (x : List ℕ) → d.running ≡ b.running → Stay n s.work x → Permitted n x d g l
  same d x r e = quietly n s.work x b d g l e r j

  gone_running : (t : ℕ) (f : ℕ → ℕ) → (u : ℕ) → (put f t 0 u ≡ 0 → ⊥) → (u ≡ t → ⊥) × (f u ≡ 0 → ⊥)
  gone_running t f u r = (λ e. r (rw (e, eq-eqb t t refl) refl), λ e. r (by_bool (eqb u t) (λ k. rw k refl) (λ k. rw k e)))

  pub accepted_permitted : (c : Call) → accepted (perform s c).answer ≡ true
      → Permitted n (perform s c).after.work (fed n b c s.received (perform s c).after.received) (granting g c) (permitting l c)
  unfolding perform fed begun committed aborted created word_set flushed mark_set back_to
  accepted_permitted (begin t c) a = let i = here n some s b v (begin t c) refl a in through true s _ _ _ n (Leaves _ _ _) (begin_outcome s t c) a i.size
      (λ h k. begun_permitted n some s b i z h g y l j t c (begin_facts s n t c k))
  accepted_permitted (commit t) a = let i = here n some s b v (commit t) refl a in through true s _ _ _ n (Leaves _ _ _) (commit_outcome s t) a i.size
      (λ h k. ended_permitted n some s b i z h g y l j t (commit_facts s n t k).txn _ (gone_running t b.running))
  accepted_permitted (abort t) a = let i = here n some s b v (abort t) refl a in through true s _ _ _ n (Leaves _ _ _) (abort_outcome s t) a i.size
      (λ h k. ended_permitted n some s b i z h g y l j t (abort_facts s n t k).txn _ (gone_running t b.running))
  accepted_permitted (grant c p r) a = let i = here n some s b v (grant c p r) refl a in through true s _ _ _ n (Leaves _ _ _) (grant_outcome s c p r) a i.size
      (λ h k. granted_permitted n some s b i z h g y l j c p r (grant_facts s n c p r k))
  accepted_permitted (lock_read t p) a = let i = here n some s b v (lock_read t p) refl a in through true s _ _ _ n (Leaves _ _ _) (lock_read_outcome s t p) a i.size
      (λ h k. let f = lock_read_facts s n t p k in read_permitted n some s b i z h g y l j t p f _ (λ x d u. (lock_read_beside s.work n t p f.page).above x (omega arith)))
  accepted_permitted (lock_write t p) a = let i = here n some s b v (lock_write t p) refl a in through true s _ _ _ n (Leaves _ _ _) (lock_write_outcome s t p) a i.size
      (λ h k. let f = lock_write_facts s n t p k in write_permitted n some s b i z h g y l j t p f _ (λ x d u. (lock_write_beside s.work n t p f.page).above x (omega arith)))
  accepted_permitted (read t o buffer) a = through (eqb (length buffer) slot_words) s _ _ _ n (Leaves _ _ _) (read_outcome s t o buffer) a (here n some s b v (read t o buffer) refl a).size
      (λ h k. let f = read_facts s n t o k in same _ _ refl (λ x d u. (read_beside s.received s.work n t o h.ranged.received_sound f.object.low f.object.top).above x (omega arith)))
  accepted_permitted (create t o) a = through true s _ _ _ n (Leaves _ _ _) (create_outcome s t o) a (here n some s b v (create t o) refl a).size
      (λ h k. let f = create_facts s n t o k in same _ _ refl (λ x d u. (create_beside s.work n t o f.object.low f.object.top).above x (omega arith)))
  accepted_permitted (set_word t o f q) a = through true s _ _ _ n (Leaves _ _ _) (set_outcome s t o f q) a (here n some s b v (set_word t o f q) refl a).size
      (λ h k. let e = set_facts s n t o f q k in
      same _ _ refl (λ x d u. (set_beside s.received s.work n t o f q h.ranged.received_sound e.object.low e.object.top e.field).above x (omega arith)))
  accepted_permitted (flush t p image) a = through (eqb (length image) page_words) s _ _ _ n (Leaves _ _ _) (flush_outcome s t p image) a (here n some s b v (flush t p image) refl a).size
      (λ h k. same _ _ refl (λ x d u. (flush_beside s.work n t p (flush_facts s n t p image k).page).above x (omega arith)))
  accepted_permitted force a = through true s _ _ _ n (Leaves _ _ _) (force_outcome s) a (here n some s b v force refl a).size (λ h k. same _ _ refl (λ x d u. refl))
  accepted_permitted (store p) a = through true s _ _ _ n (Leaves _ _ _) (store_outcome s p) a (here n some s b v (store p) refl a).size (λ h k. same _ _ refl (λ x d u. refl))
  accepted_permitted empty a = through true s _ _ _ n (Leaves _ _ _) (empty_outcome s) a (here n some s b v empty refl a).size
      (λ h k. same _ _ refl (λ x d u. (beside_fill (λ i. 0) s.work (undoing_at n 0) (records s)).below x (omega arith)))
  accepted_permitted pass a = through true s _ _ _ n (Leaves _ _ _) (pass_outcome s) a (here n some s b v pass refl a).size (λ h k. same _ _ refl (λ x d u. (start_beside s.work n).above x (omega arith)))
  accepted_permitted step a = let i = here n some s b v step refl a in
      let k = (step_outcome s).ran a in
      let p = opened true s k.n k.ready in
      let e : k.n ≡ n = sym p.sized.count ∙ i.size in
      let d : call_step s ≡ stepped s n = k.gives ∙ ap (stepped s) e in
      same _ _ refl (step_stays n some s b i (rw e at p) (step_facts s k.passed).one_runs (call_step s) (step_way s n (call_step s) a d))
  accepted_permitted reopen a = rw (ap (λ (x : Out). x.after.work) (reopen_ran s a).gives) (clearly n _ _ (reopen_clear s))
  accepted_permitted restep a = same _ _ refl (restep_stays n some s b v a)
  accepted_permitted (mark t m) a = through true s _ _ _ n (Leaves _ _ _) (mark_outcome s t m) a (here n some s b v (mark t m) refl a).size
      (λ h k. let f = mark_facts s t m k in same _ _ refl (λ x d u. (mark_beside s.work n t m _ f.txn f.mark (let e = h.sized.work_len in omega arith)).above x d))
  accepted_permitted (back t m) a = let i = here n some s b v (back t m) refl a in through true s _ _ _ n (Leaves _ _ _) (back_outcome s t m) a i.size
      (λ h k. let f = back_facts s n t m k in
      same _ _ (went_running (left (b.running t) b.lines - b.marked t m) b t) (λ x d u. (dropped_beside _ n t _ mark_count f.txn (omega arith)).above x d ∙ (gone n some s b i h t m f).marks x (omega arith) u))
  accepted_permitted (look q) a = rw (look_keeps s q) j

-- both ledgers
pub record Lawful (n : ℕ) (q : Point) (l : Granted × Permits) : Type 0 where
  pub ledgered : Ledgered n q l.0
  pub permitted : Permitted n q.store.work q.book l.0 l.1

pub keep_lawful : (n : ℕ) → 1 ≤ n → (q : Point) (l : Granted × Permits) (e : Event) → Sure n q → Lawful n q l → Lawful n (after n q e) (kept (both grants permits) q l e)
unfolding after kept cut
keep_lawful n some q l (call c) u j = let k = keep_ledger n some q l.0 (call c) u j.ledgered in by_bool (accepts q c)
    (λ a. rw a (record { ledgered = rw a at k; permitted = accepted_permitted n some q.store q.book u.inv u.fine l.0 j.ledgered.agrees l.1 j.permitted c a }))
    (λ a. rw (a, refused_keeps q.store c a) j)
keep_lawful n some q l power u j = record { ledgered = keep_ledger n some q l.0 power u j.ledgered; permitted = clearly n _ _ (λ i h. zero_at (length q.store.work) i) }

pub start_lawful : (n k : ℕ) → Lawful n (start n k) (nothing, no_rights)
unfolding formatted
start_lawful n k = record {
  ledgered = start_ledger n k;
  permitted = clearly n _ _ (λ i h. get_or-set_other (replicate (work_words n k) 0) 0 i 2 0 (λ z. omega arith) ∙ zero_at (work_words n k) i);
}

pub disk_lawful : (s : Areas) → Lawful (pages s) (from_disk s) (nothing, no_rights)
unfolding cut
disk_lawful s = record { ledgered = disk_ledger s; permitted = clearly (pages s) _ _ (λ i h. zero_at (length s.work) i) }
