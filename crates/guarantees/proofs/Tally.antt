-- The step number of a pass that runs is the tally, at every point of every list. n is the number of pages. Assumes nothing.
use Prim.Native.Nat.{ℕ, zero, suc, ◌+◌, ◌≤◌}
use native.Mathlib.Omega.{arith}
use mathlib.Core.Path.{◌≡◌, refl, sym, ap, ◌∙◌}
use mathlib.Core.Bool.{true, false}
use mathlib.Core.List.{List}
use mathlib.Core.Logic.{inl, inr}
use lib.ListN.{length, replicate}
use lib.Seq.{get_or-set_other}
use lib.Dec.{eqb, ltb}
use Rattle.words.specs.Tests.{by_bool, clash}
use Rattle.words.specs.Spans.{zero_at}
use Rattle.pages.specs.Geometry.{page_words, slot_words}
use Rattle.areas.specs.Answers.{accepted}
use Rattle.areas.specs.Areas.{Areas, Out}
use Rattle.areas.specs.Layout.{reopening_at, reopening_page_at, finished, phase_at, steps_at, steps_top, undoing_at, work_words, mark_count}
use Rattle.areas.specs.Tables.{at}
use Rattle.areas.specs.Entry.{pages, records}
use Rattle.calls.specs.Calls.{Call, perform}
use Rattle.calls.specs.Calls.Call.{begin, commit, abort, grant, lock_read, lock_write, read, create, set_word, flush, force, store, empty, pass, step, reopen, restep, mark, back, look}
use Rattle.calls.specs.Formatting.{formatted, cut}
use Rattle.calls.specs.Objects.{created, word_set, flushed}
use Rattle.calls.specs.Pass.{call_step}
use Rattle.calls.specs.PassShares.{pass_bound}
use Rattle.calls.specs.Reopening.{page_stored, reopening_over, call_restep}
use Rattle.calls.specs.Transactions.{begun, committed, aborted}
use Rattle.calls.specs.Stability.{emptied}
use Rattle.calls.specs.Marks.{mark_set, back_to}
use Rattle.acceptance.specs.Calls.{refused_keeps}
use Rattle.acceptance.specs.Entered.{Open, opened}
use Rattle.acceptance.specs.Transactions.{begin_outcome, begin_facts, commit_outcome, abort_outcome}
use Rattle.acceptance.specs.Rights.{grant_outcome}
use Rattle.acceptance.specs.Locks.{lock_read_outcome, lock_read_facts, lock_write_outcome, lock_write_facts}
use Rattle.acceptance.specs.Objects.{read_outcome, read_facts, create_outcome, create_facts, set_outcome, set_facts, flush_outcome, flush_facts}
use Rattle.acceptance.specs.Stability.{force_outcome, store_outcome, empty_outcome}
use Rattle.acceptance.specs.Marks.{mark_outcome, mark_facts, back_outcome, back_facts}
use Rattle.acceptance.specs.Looks.{look_keeps}
use Rattle.acceptance.specs.Pass.{pass_outcome, step_outcome, step_facts, step_way, StepWay, scans, turns, sweeps, stepped}
use Rattle.acceptance.specs.Reopening.{reopen_ran}
use Rattle.book.specs.Books as Books
use Rattle.book.specs.Books.{Book}
use Rattle.book.specs.Feeding.{fed}
use Rattle.book.specs.Demand.{Event, call, power, Point, accepts, after, start}
use Rattle.collector.specs.State.{is_idle, Pass}
use Rattle.collector.specs.Calls.{onward}
use Rattle.collector.proofs.Steps.{steps_most}
use Rattle.machine_calls.specs.Tables.{phase_of, pass_of}
use Rattle.machine_calls.proofs.Begun.{begin_pass}
use Rattle.machine_calls.proofs.Created.{create_pass}
use Rattle.machine_calls.proofs.Ended.{ended_pass}
use Rattle.machine_calls.proofs.Flushed.{flush_pass}
use Rattle.machine_calls.proofs.Frames.{beside_set, beside_fill, pass_kept}
use Rattle.machine_calls.proofs.Learned.{read_pass}
use Rattle.machine_calls.proofs.Locking.{lock_read_pass, lock_write_pass}
use Rattle.machine_calls.proofs.TakenBack.{dropped_beside}
use Rattle.machine_calls.proofs.Written.{set_pass}
use Rattle.demand.proofs.Rights.{grant_beside}
use Rattle.demand.proofs.State.{machine, OpenInv, Inv3}
use Rattle.demand.proofs.Holds.{sweeping_phase}
use Rattle.demand.proofs.HoldsWaiting.{step_entered, storing_opened}
use Rattle.demand.proofs.Marks.{mark_beside, gone}
use Rattle.demand.proofs.Passing.{start_passed, scan_passed, turn_passed, advance_passed}
use Rattle.demand.proofs.Rest.{no_pass}
use Rattle.guarantees.specs.Disks.{from_disk}
use Rattle.guarantees.specs.Ledgers.{kept}
use Rattle.guarantees.specs.Steps.{part_of, tallied, tally}
use Rattle.guarantees.proofs.Always.{Sure, as_storing}
use Rattle.guarantees.proofs.Through.{through}
use Rattle.guarantees.proofs.Closing.{here, closed_after}
use Rattle.guarantees.proofs.Granted.{reopen_clear}

pub record Counts (n : ℕ) (w : List ℕ) (l : ℕ) : Type 0 where
  pub runs : is_idle (pass_of w n).phase ≡ false → at w steps_at ≡ l
  pub most : l ≤ pass_bound n

-- the pass stays
kept_counts : (n : ℕ) (w v : List ℕ) (l : ℕ) → pass_of v n ≡ pass_of w n → Counts n w l → Counts n v l
kept_counts n w v l e g = record { runs = λ r. ap (λ (a : Pass). a.steps) e ∙ g.runs (sym (ap (λ (a : Pass). is_idle a.phase) e) ∙ r); most = g.most }

-- clear tables
clear_counts : (n : ℕ) (w : List ℕ) → ((i : ℕ) → 2 ≤ i → at w i ≡ 0) → Counts n w 0
clear_counts n w clear = record { runs = λ r. clear steps_at (omega arith); most = omega arith }

-- a step: of a pass that runs; one that goes on has its number
step_counts : (n : ℕ) (w v : List ℕ) (l : ℕ) → is_idle (pass_of w n).phase ≡ false → at w steps_at ≤ steps_top n → (is_idle (pass_of v n).phase ≡ false → at v steps_at ≡ suc (at w steps_at))
    → Counts n w l → Counts n v (suc l)
step_counts n w v l run top next g = let e = g.runs run in record { runs = λ r. next r ∙ ap suc e; most = omega arith }

on_steps : (p : ℕ) (a : Pass) → is_idle (onward p a).phase ≡ false → (onward p a).steps ≡ suc a.steps
on_steps p a = by_bool (ltb (suc a.at) p) (λ e r. rw e refl) (λ e r. clash refl (rw e at r))

pub not_idle : (k : ℕ) → (k ≡ 0 → ⊥) → is_idle (phase_of k) ≡ false
not_idle zero z = absurd (z refl)
not_idle (suc zero) z = refl
not_idle (suc (suc k)) z = refl

module _ (n : ℕ) (some : 1 ≤ n) (s : Areas) (b : Book) (i : OpenInv n s b) (h : Open s n) (run : at s.work phase_at ≡ 0 → ⊥) (l : ℕ) (g : Counts n s.work l) where
  -- a step that leaves the pass a
  stepped_to : (v : List ℕ) (a : Pass) → pass_of v n ≡ a → (is_idle a.phase ≡ false → a.steps ≡ suc (at s.work steps_at)) → Counts n v (suc l)
  stepped_to v a e next = step_counts n s.work v l (not_idle _ run) (steps_most (machine n s b) i.collector)
      (λ r. ap (λ (p : Pass). p.steps) e ∙ next (sym (ap (λ (p : Pass). is_idle p.phase) e) ∙ r)) g

  pub way_counts : (o : Out) → StepWay s n o → Counts n o.after.work (suc l)
  way_counts o (scans m k d) = rw d (stepped_to _ _ (scan_passed n some s b i h m k) (λ r. refl))
  way_counts o (turns m k d) = rw d (stepped_to _ _ (turn_passed n some s b i h m) (λ r. refl))
  way_counts o (sweeps m c d) = rw d (stepped_to _ _ (advance_passed n some s b i h (sweeping_phase (at s.work phase_at) run m)) (on_steps n (pass_of s.work n)))

emptied_pass : (n : ℕ) (s : Areas) → pass_of (emptied s n).work n ≡ pass_of s.work n
emptied_pass n s = pass_kept (beside_fill (λ j. 0) s.work (undoing_at n 0) (records s)) n (inr (omega arith)) (inr (omega arith))

pub restep_pass : (n : ℕ) → 1 ≤ n → (s : Areas) (b : Book) → Inv3 n s b → accepted (call_restep s).answer ≡ true → pass_of (call_restep s).after.work n ≡ pass_of s.work n
unfolding page_stored reopening_over
restep_pass n some s b v r =
    let k = (as_storing n s b v r).0 in
    let i = (as_storing n s b v r).1 in
    let p = at s.work reopening_page_at in
    let g = (step_entered n some s b k i r).1 in
    by_bool (ltb p n)
    (λ e. let d : (call_restep s).after ≡ page_stored s p = g ∙ rw e refl in rw d (pass_kept (beside_set s.work reopening_page_at (p + 1)) n (inl (omega arith)) (inl (omega arith))))
    (λ e. let d : (call_restep s).after ≡ reopening_over s n = g ∙ rw e refl in
    rw d (pass_kept (beside_set _ reopening_page_at 0) n (inl (omega arith)) (inl (omega arith)) ∙ pass_kept (beside_set (emptied s n).work reopening_at finished) n (inl (omega arith)) (inl (omega arith)) ∙ emptied_pass n s))

-- every accepted call
module _ (n : ℕ) (some : 1 ≤ n) (s : Areas) (b : Book) (v : Inv3 n s b) (l : ℕ) (g : Counts n s.work l) where
  abbrev w : List ℕ
  w = s.work

  -- the call leaves these tables, or those with the pass as it was
  abbrev Leaves : ℕ → Areas → Type 0
  Leaves k x = Counts n x.work k

  as_was : (u : List ℕ) → pass_of u n ≡ pass_of w n → Counts n u l
  as_was u e = kept_counts n w u l e g

  pub accepted_counts : (c : Call) → accepted (perform s c).answer ≡ true → Counts n (perform s c).after.work (tallied l (part_of c))
  unfolding perform begun committed aborted created word_set flushed mark_set back_to
  accepted_counts (begin t c) a = through true s _ _ _ n (Leaves l) (begin_outcome s t c) a (here n some s b v (begin t c) refl a).size (λ h k. as_was _ (begin_pass w n t some c (begin_facts s n t c k).txn))
  accepted_counts (commit t) a = through true s _ _ _ n (Leaves l) (commit_outcome s t) a (here n some s b v (commit t) refl a).size (λ h k. as_was _ (ended_pass w n t))
  accepted_counts (abort t) a = through true s _ _ _ n (Leaves l) (abort_outcome s t) a (here n some s b v (abort t) refl a).size (λ h k. as_was _ (ended_pass w n t))
  accepted_counts (grant c p r) a = through true s _ _ _ n (Leaves l) (grant_outcome s c p r) a (here n some s b v (grant c p r) refl a).size
      (λ h k. as_was _ (pass_kept (grant_beside w n c p r) n (inr (omega arith)) (inr (omega arith))))
  accepted_counts (lock_read t p) a = through true s _ _ _ n (Leaves l) (lock_read_outcome s t p) a (here n some s b v (lock_read t p) refl a).size
      (λ h k. as_was _ (lock_read_pass w n t p (lock_read_facts s n t p k).page))
  accepted_counts (lock_write t p) a = through true s _ _ _ n (Leaves l) (lock_write_outcome s t p) a (here n some s b v (lock_write t p) refl a).size
      (λ h k. as_was _ (lock_write_pass w n t p (lock_write_facts s n t p k).page))
  accepted_counts (read t x buffer) a = through (eqb (length buffer) slot_words) s _ _ _ n (Leaves l) (read_outcome s t x buffer) a (here n some s b v (read t x buffer) refl a).size
      (λ h k. let f = read_facts s n t x k in as_was _ (read_pass s.received w n t x h.ranged.received_sound f.object.low f.object.top))
  accepted_counts (create t x) a = through true s _ _ _ n (Leaves l) (create_outcome s t x) a (here n some s b v (create t x) refl a).size
      (λ h k. let f = create_facts s n t x k in as_was _ (create_pass w n t x f.object.low f.object.top))
  accepted_counts (set_word t x f y) a = through true s _ _ _ n (Leaves l) (set_outcome s t x f y) a (here n some s b v (set_word t x f y) refl a).size
      (λ h k. let d = set_facts s n t x f y k in
      let e = set_pass s.received w n t x f y h.ranged.received_sound d.object.low d.object.top d.field h.sized.tables.1 d.txn in
      record { runs = λ r. ap (λ (p : Pass). p.steps) e ∙ g.runs (sym (ap (λ (p : Pass). is_idle p.phase) e) ∙ r); most = g.most })
  accepted_counts (flush t p image) a = through (eqb (length image) page_words) s _ _ _ n (Leaves l) (flush_outcome s t p image) a (here n some s b v (flush t p image) refl a).size
      (λ h k. as_was _ (flush_pass w n t p (flush_facts s n t p image k).page))
  accepted_counts force a = through true s _ _ _ n (Leaves l) (force_outcome s) a (here n some s b v force refl a).size (λ h k. g)
  accepted_counts (store p) a = through true s _ _ _ n (Leaves l) (store_outcome s p) a (here n some s b v (store p) refl a).size (λ h k. g)
  accepted_counts empty a = through true s _ _ _ n (Leaves l) (empty_outcome s) a (here n some s b v empty refl a).size (λ h k. as_was _ (emptied_pass n s))
  accepted_counts pass a = let i = here n some s b v pass refl a in through true s _ _ _ n (Leaves 0) (pass_outcome s) a i.size
      (λ h k. record { runs = λ r. ap (λ (p : Pass). p.steps) (start_passed n some s b i h); most = omega arith })
  accepted_counts step a = let i = here n some s b v step refl a in
      let k = (step_outcome s).ran a in
      let p = opened true s k.n k.ready in
      let e : k.n ≡ n = sym p.sized.count ∙ i.size in
      let d : call_step s ≡ stepped s n = k.gives ∙ ap (stepped s) e in
      way_counts n some s b i (rw e at p) (step_facts s k.passed).one_runs l g (call_step s) (step_way s n (call_step s) a d)
  accepted_counts reopen a = rw (ap (λ (x : Out). x.after.work) (reopen_ran s a).gives) (clear_counts n _ (reopen_clear s))
  accepted_counts restep a = as_was _ (restep_pass n some s b v a)
  accepted_counts (mark t m) a = through true s _ _ _ n (Leaves l) (mark_outcome s t m) a (here n some s b v (mark t m) refl a).size
      (λ h k. let f = mark_facts s t m k in
      as_was _ (pass_kept (mark_beside w n t m _ f.txn f.mark (let e = h.sized.work_len in omega arith)) n (inr (omega arith)) (inr (omega arith))))
  accepted_counts (back t m) a = let i = here n some s b v (back t m) refl a in through true s _ _ _ n (Leaves l) (back_outcome s t m) a i.size
      (λ h k. let f = back_facts s n t m k in
      as_was _ (pass_kept (dropped_beside _ n t _ mark_count f.txn (omega arith)) n (inr (omega arith)) (inr (omega arith)) ∙ (gone n some s b i h t m f).pass))
  accepted_counts (look q) a = rw (look_keeps s q) g

-- where the store is not open no pass runs
pub record Rests (n : ℕ) (w : List ℕ) : Type 0 where
  pub idle : is_idle (pass_of w n).phase ≡ true
  pub none : at w steps_at ≡ 0

clear_rests : (n : ℕ) (w : List ℕ) → ((i : ℕ) → 2 ≤ i → at w i ≡ 0) → Rests n w
clear_rests n w clear = let e = no_pass n w clear in record { idle = ap (λ (p : Pass). is_idle p.phase) e; none = ap (λ (p : Pass). p.steps) e }

-- the invariant
pub record Stepping (n : ℕ) (q : Point) (l : ℕ) : Type 0 where
  pub counts : Counts n q.store.work l
  pub closed : (q.book.stage ≡ Books.opened → ⊥) → Rests n q.store.work

kept_rests : (n : ℕ) (w v : List ℕ) → pass_of v n ≡ pass_of w n → Rests n w → Rests n v
kept_rests n w v e r = record { idle = ap (λ (p : Pass). is_idle p.phase) e ∙ r.idle; none = ap (λ (p : Pass). p.steps) e ∙ r.none }

accepted_rests : (n : ℕ) → 1 ≤ n → (s : Areas) (b : Book) → Inv3 n s b → ((b.stage ≡ Books.opened → ⊥) → Rests n s.work)
    → (c : Call) → accepted (perform s c).answer ≡ true → (r : List ℕ) → ((fed n b c s.received r).stage ≡ Books.opened → ⊥) → Rests n (perform s c).after.work
unfolding perform
accepted_rests n some s b v rests = closed_after n some s b v (λ c. Rests n (perform s c).after.work)
    (λ a. rw (ap (λ (x : Out). x.after.work) (reopen_ran s a).gives) (clear_rests n _ (reopen_clear s)))
    (λ a. kept_rests n s.work _ (restep_pass n some s b v a) (rests (λ e. storing_opened (sym (as_storing n s b v a).1.stage ∙ e))))

pub keep_stepping : (n : ℕ) → 1 ≤ n → (q : Point) (l : ℕ) (e : Event) → Sure n q → Stepping n q l → Stepping n (after n q e) (kept tally q l e)
unfolding after kept cut
keep_stepping n some q l (call c) u j = by_bool (accepts q c)
    (λ a. rw a (record { counts = accepted_counts n some q.store q.book u.inv l j.counts c a; closed = accepted_rests n some q.store q.book u.inv j.closed c a _ }))
    (λ a. rw (a, refused_keeps q.store c a) j)
keep_stepping n some q l power u j = let clear : (i : ℕ) → 2 ≤ i → at (cut q.store).work i ≡ 0 = λ i h. zero_at (length q.store.work) i in
    record { counts = clear_counts n _ clear; closed = λ shut. clear_rests n _ clear }

pub start_stepping : (n k : ℕ) → Stepping n (start n k) 0
unfolding formatted
start_stepping n k = let clear : (i : ℕ) → 2 ≤ i → at (formatted n k).work i ≡ 0 = λ i h. get_or-set_other (replicate (work_words n k) 0) 0 i 2 0 (λ z. omega arith) ∙ zero_at (work_words n k) i in
    record { counts = clear_counts n _ clear; closed = λ shut. clear_rests n _ clear }

pub disk_stepping : (s : Areas) → Stepping (pages s) (from_disk s) 0
unfolding cut
disk_stepping s = let clear : (i : ℕ) → 2 ≤ i → at (cut s).work i ≡ 0 = λ i h. zero_at (length s.work) i in record { counts = clear_counts (pages s) _ clear; closed = λ shut. clear_rests (pages s) _ clear }
