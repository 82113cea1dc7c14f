-- What an accepted call leaves of an object, in the received pages and in the copies; of one on a page that its transaction does not write;
-- and what another's leaves of one on a page that t holds. n is the number of pages. Assumes nothing.
use Prim.Native.Nat.{ℕ, ◌*◌, ◌≤◌, ◌<◌}
use native.Mathlib.Omega.{arith}
use mathlib.Core.Path.{◌≡◌, refl, sym, ap, ◌∙◌}
use mathlib.Core.Bool.{Bool, true, false}
use mathlib.Core.List.{List}
use mathlib.Core.Logic.{inl, inr}
use lib.ListN.{length}
use lib.Dec.{eqb}
use borrow.Author.Tests.{eq-eqb, eqb-false, ne_eqb}
use Rattle.words.specs.Tests.{if, by_bool, clash, or_cases}
use Rattle.pages.specs.Geometry.{page_of, page_words, slot_words}
use Rattle.pages.specs.Objects.{released}
use Rattle.records.specs.Effects.{effect}
use Rattle.records.specs.Records.{txn_count}
use Rattle.areas.specs.Answers.{accepted}
use Rattle.areas.specs.Areas.{Areas, Out, appended}
use Rattle.areas.specs.Layout.{phase_at, pass_page_at, writers_at}
use Rattle.areas.specs.Tables.{at, can_write}
use Rattle.calls.specs.Calls.{Call, reopens, perform}
use Rattle.calls.specs.Calls.Call.{begin, commit, abort, grant, lock_read, lock_write, read, create, set_word, flush, force, store, empty, pass, step, reopen, restep, mark, back, look}
use Rattle.calls.specs.Marks.{mark_set, since_mark, went_back, back_to}
use Rattle.calls.specs.Objects.{created, word_set, flushed}
use Rattle.calls.specs.Pass.{call_step, freed_map, locked, swept_page}
use Rattle.calls.specs.Transactions.{begun, committed, changes_of, aborted}
use Rattle.acceptance.specs.Entered.{Open, opened}
use Rattle.acceptance.specs.Looks.{look_keeps}
use Rattle.acceptance.specs.Transactions.{begin_outcome, commit_outcome, abort_outcome, abort_facts, AbortFacts}
use Rattle.acceptance.specs.Rights.{grant_outcome}
use Rattle.acceptance.specs.Locks.{lock_read_outcome, lock_write_outcome}
use Rattle.acceptance.specs.Objects.{read_outcome, create_outcome, create_facts, set_outcome, set_facts, flush_outcome, flush_facts}
use Rattle.acceptance.specs.Stability.{force_outcome, store_outcome, empty_outcome}
use Rattle.acceptance.specs.Marks.{mark_outcome, back_outcome, back_facts, BackFacts}
use Rattle.acceptance.specs.Pass.{pass_outcome, step_outcome, step_facts, step_way, StepWay, scans, turns, sweeps, stepped, sweep_map_of, sweeping}
use Rattle.book.specs.Lines.{left}
use Rattle.book.specs.Books.{Book}
use Rattle.book.specs.Feeding.{goes_back}
use Rattle.collector.specs.Bits.{true_and}
use Rattle.collector.specs.Objects as O
use Rattle.collector.specs.Objects.{fresh, put}
use Rattle.collector.specs.State as M
use Rattle.collector.specs.Calls as C
use Rattle.collector.proofs.Safety.{sound}
use Rattle.machine_view.specs.View.{view}
use Rattle.machine_view.proofs.Effects.{occupy_view, written_view}
use Rattle.machine_calls.specs.Tables.{locks_of, tables_of, phase_of}
use Rattle.machine_calls.proofs.Frames.{page_bit_law}
use Rattle.machine_pass.proofs.Sweep.{dead_at, swept_view}
use Rattle.book_laws.specs.Seen.{Seen}
use Rattle.book_laws.specs.Keeping.{Runs}
use Rattle.book_laws.proofs.GoneBack.{went_full}
use Rattle.demand.proofs.State.{machine, OpenInv, Inv3}
use Rattle.demand.proofs.Abort as Abort
use Rattle.demand.proofs.Change.{full_shown}
use Rattle.demand.proofs.Copying.{copied_view}
use Rattle.demand.proofs.Holds.{sweeping_phase}
use Rattle.demand.proofs.Marks as Marks
use Rattle.demand.proofs.Restored.{restored_view}
use Rattle.demand.proofs.Went.{Went}
use Rattle.guarantees.specs.Holders.{Granted, holds}
use Rattle.guarantees.specs.Readers.{own}
use Rattle.guarantees.proofs.Through.{through}
use Rattle.guarantees.proofs.Closing.{here}
use Rattle.guarantees.proofs.Granted.{Agrees}

-- calls that leave received pages and copies as they are
abbrev pub quiet : Call → Bool
quiet (begin t c) = true
quiet (commit t) = true
quiet (abort t) = false
quiet (grant c p r) = true
quiet (lock_read t p) = true
quiet (lock_write t p) = true
quiet (read t x buffer) = true
quiet (create t x) = false
quiet (set_word t x f v) = false
quiet (flush t p image) = false
quiet force = true
quiet (store p) = true
quiet empty = true
quiet pass = true
quiet step = false
quiet reopen = false
quiet restep = false
quiet (mark t m) = true
quiet (back t m) = false
quiet (look q) = true

-- an accepted call of an open store
module _ (n : ℕ) (some : 1 ≤ n) (s : Areas) (b : Book) (v : Inv3 n s b) where
  size : (c : Call) → reopens c ≡ false → accepted (perform s c).answer ≡ true → Rattle.areas.specs.Entry.pages s ≡ n
  size c r a = (here n some s b v c r a).size

  abbrev Same : Areas → Type 0
  Same a = (a.received ≡ s.received) × (a.copies ≡ s.copies)

  pub quiet_areas : (c : Call) → quiet c ≡ true → accepted (perform s c).answer ≡ true → Same (perform s c).after
  unfolding perform begun committed mark_set appended effect
  quiet_areas (begin t c) e a = through true s _ _ _ n Same (begin_outcome s t c) a (size (begin t c) refl a) (λ h k. (refl, refl))
  quiet_areas (commit t) e a = through true s _ _ _ n Same (commit_outcome s t) a (size (commit t) refl a) (λ h k. (refl, refl))
  quiet_areas (abort t) e a = clash e refl
  quiet_areas (grant c p r) e a = through true s _ _ _ n Same (grant_outcome s c p r) a (size (grant c p r) refl a) (λ h k. (refl, refl))
  quiet_areas (lock_read t p) e a = through true s _ _ _ n Same (lock_read_outcome s t p) a (size (lock_read t p) refl a) (λ h k. (refl, refl))
  quiet_areas (lock_write t p) e a = through true s _ _ _ n Same (lock_write_outcome s t p) a (size (lock_write t p) refl a) (λ h k. (refl, refl))
  quiet_areas (read t x buffer) e a = through (eqb (length buffer) slot_words) s _ _ _ n Same (read_outcome s t x buffer) a (size (read t x buffer) refl a) (λ h k. (refl, refl))
  quiet_areas (create t x) e a = clash e refl
  quiet_areas (set_word t x f w) e a = clash e refl
  quiet_areas (flush t p image) e a = clash e refl
  quiet_areas force e a = through true s _ _ _ n Same (force_outcome s) a (size force refl a) (λ h k. (refl, refl))
  quiet_areas (store p) e a = through true s _ _ _ n Same (store_outcome s p) a (size (store p) refl a) (λ h k. (refl, refl))
  quiet_areas empty e a = through true s _ _ _ n Same (empty_outcome s) a (size empty refl a) (λ h k. (refl, refl))
  quiet_areas pass e a = through true s _ _ _ n Same (pass_outcome s) a (size pass refl a) (λ h k. (refl, refl))
  quiet_areas step e a = clash e refl
  quiet_areas reopen e a = clash e refl
  quiet_areas restep e a = clash e refl
  quiet_areas (mark t m) e a = through true s _ _ _ n Same (mark_outcome s t m) a (size (mark t m) refl a) (λ h k. (refl, refl))
  quiet_areas (back t m) e a = clash e refl
  quiet_areas (look q) e a = rw (look_keeps s q) (refl, refl)

  pub flush_received : (t p : ℕ) (image : List ℕ) → accepted (perform s (flush t p image)).answer ≡ true → (perform s (flush t p image)).after.received ≡ s.received
  unfolding perform flushed
  flush_received t p image a = through (eqb (length image) page_words) s _ _ _ n (λ z. z.received ≡ s.received) (flush_outcome s t p image) a (size (flush t p image) refl a) (λ h k. refl)

  pub create_received : (t y : ℕ) → accepted (perform s (create t y)).answer ≡ true → (x : ℕ) → view (perform s (create t y)).after.received x ≡ if (eqb x y) fresh (view s.received x)
  unfolding perform created appended effect
  create_received t y a x = through true s _ _ _ n (λ z. view z.received x ≡ if (eqb x y) fresh (view s.received x)) (create_outcome s t y) a (size (create t y) refl a)
      (λ h k. let f = create_facts s n t y k in occupy_view n s.received h.sized.received_len y f.object.low f.object.top x)

  pub set_received : (t y f w : ℕ) → accepted (perform s (set_word t y f w)).answer ≡ true → (x : ℕ)
      → view (perform s (set_word t y f w)).after.received x ≡ if (eqb x y) (put (view s.received y) f w) (view s.received x)
  unfolding perform word_set appended effect
  set_received t y f w a x = through true s _ _ _ n (λ z. view z.received x ≡ if (eqb x y) (put (view s.received y) f w) (view s.received x)) (set_outcome s t y f w) a (size (set_word t y f w) refl a)
      (λ h k. let d = set_facts s n t y f w k in written_view n s.received h.sized.received_len y d.object.low d.object.top f w d.field x)

-- an object stays, in both areas
abbrev pub Stays : Areas → Areas → ℕ → Type 0
Stays s a x = (view a.received x ≡ view s.received x) × (view a.copies x ≡ view s.copies x)

-- a pass step, and an object that t knows by the tables
module _ (n : ℕ) (s : Areas) (b : Book) (i : OpenInv n s b) (h : Open s n) (t x : ℕ) (k : (tables_of s.work n).kn t x ≡ true) where
  abbrev page : ℕ
  page = at s.work pass_page_at

  alive : phase_of (at s.work phase_at) ≡ M.sweeping → dead_at n s.copies s.work h.ranged.working.created page x ≡ false
  alive ph = by_bool (dead_at n s.copies s.work h.ranged.working.created page x)
      (λ e. absurd ((sound (machine n s b) i.collector).unknown t x (rw (ph, true_and (C.dead (machine n s b) x)) e) k))
      (λ e. e)

  freed_kept : phase_of (at s.work phase_at) ≡ M.sweeping → (sweep_map_of s n ≡ 0 → ⊥) → (a : List ℕ) → length a ≡ page_words * n → view (released a page (sweep_map_of s n)) x ≡ view a x
  unfolding freed_map
  freed_kept ph on a len = by_bool (locked s.work n page)
      (λ e. absurd (on (rw e refl)))
      (λ e. rw e (swept_view n s.copies s.work h.ranged.working.created h.sized.copies_len a len page x h.ranged.working.pass_page ∙ rw (alive ph) refl))

  sweep_stays : phase_of (at s.work phase_at) ≡ M.sweeping → Stays s (sweeping s n).after x
  unfolding swept_page appended effect
  sweep_stays ph = by_bool (eqb (sweep_map_of s n) 0)
      (λ e. rw e (refl, refl))
      (λ e. let on = eqb-false _ _ e in rw e (freed_kept ph on s.received h.sized.received_len, freed_kept ph on s.copies h.sized.copies_len))

  step_stays : (at s.work phase_at ≡ 0 → ⊥) → (o : Out) → StepWay s n o → Stays s o.after x
  step_stays ph o (scans m g d) = rw d (refl, refl)
  step_stays ph o (turns m g d) = rw d (refl, refl)
  step_stays ph o (sweeps m c d) = rw d (sweep_stays (sweeping_phase (at s.work phase_at) ph m))

-- changes of u undone, and an object on a page that it does not write
module _ (n : ℕ) (some : 1 ≤ n) (s : Areas) (b : Book) (i : OpenInv n s b) (h : Open s n) (u x : ℕ) (off : (locks_of s.work n).wr u (page_of x) ≡ false) where
  went_stays : (k : ℕ) (a : Areas) → Went n u s b a (goes_back k b u) → Runs b u → k ≤ left (b.running u) b.lines → Stays s a x
  went_stays k a w run l = (
    sym (full_shown n a (goes_back k b u) w.kept x)
        ∙ ap (λ (v : Seen). v.object) (went_full u (locks_of s.work n).wr k b i.book i.writers run l x off)
        ∙ full_shown n s b i x,
    ap (λ (c : List ℕ). view c x) w.copies,
  )

  back_stays : (m : ℕ) → BackFacts s n u m → Stays s (back_to s n u m) x
  unfolding back_to
  back_stays m f = went_stays (length (since_mark s n u m)) (went_back s.log (since_mark s n u m) s n u) (Marks.gone n some s b i h u m f)
      (Marks.back_runs n some s b i h u m f) (let e = Marks.count n some s b i h u m f in omega arith)

  abort_stays : AbortFacts s n u → Stays s (aborted s n u) x
  unfolding appended effect O.page_of
  abort_stays f =
      let w = Abort.gone n some s b i h u f in
      let e = Abort.words_count n s b i u f.txn (Abort.run n some s b i h u f) in
      let a = went_back s.log (changes_of s n u) s n u in
      let q = went_stays (length (changes_of s n u)) a w (Abort.run n some s b i h u f) (omega arith) in
      rw (Abort.areas_same n some s b i h u f)
      (q.0, restored_view s.work n u a.received s.copies w.sized.received_len h.sized.copies_len f.txn x ∙ rw off refl)

pub back_leaves : (n : ℕ) → 1 ≤ n → (s : Areas) (b : Book) → Inv3 n s b → (u m : ℕ) → accepted (perform s (back u m)).answer ≡ true
    → (x : ℕ) → (locks_of s.work n).wr u (page_of x) ≡ false → Stays s (perform s (back u m)).after x
unfolding perform
back_leaves n some s b v u m a x off = let i = here n some s b v (back u m) refl a in
    through true s _ _ _ n (λ z. Stays s z x) (back_outcome s u m) a i.size (λ h c. back_stays n some s b i h u x off m (back_facts s n u m c))

-- an accepted call that is no reopening, and an object on a page that its transaction does not write; k: of a pass step it is asked that
-- some t knows the object
module _ (n : ℕ) (some : 1 ≤ n) (s : Areas) (b : Book) (v : Inv3 n s b) (x : ℕ) where
  abbrev After : Areas → Type 0
  After a = Stays s a x

  abbrev Off : ℕ → Type 0
  Off u = (locks_of s.work n).wr u (page_of x) ≡ false

  -- a page that u writes is not this one
  elsewhere : (u p : ℕ) → Off u → u < txn_count → p < n → can_write s.work n u p ≡ true → eqb (page_of x) p ≡ false
  elsewhere u p off small below w = ne_eqb (page_of x) p (λ e. clash (page_bit_law s.work n (writers_at n) u p small below ∙ w) (rw e at off))

  other_object : (u y : ℕ) → Off u → u < txn_count → page_of y < n → can_write s.work n u (page_of y) ≡ true → eqb x y ≡ false
  other_object u y off small below w = ne_eqb x y (λ e. eqb-false (page_of x) (page_of y) (elsewhere u (page_of y) off small below w) (ap page_of e))

  both : (c : Call) → quiet c ≡ true → accepted (perform s c).answer ≡ true → Stays s (perform s c).after x
  both c e a = let k = quiet_areas n some s b v c e a in (ap (λ (z : List ℕ). view z x) k.0, ap (λ (z : List ℕ). view z x) k.1)

  pub unwritten_stays : (c : Call) → ((u : ℕ) → own u c ≡ true → Off u) → reopens c ≡ false → (c ≡ step → (t : ℕ) × ((tables_of s.work n).kn t x ≡ true))
      → accepted (perform s c).answer ≡ true → Stays s (perform s c).after x
  unfolding perform created word_set flushed appended effect O.page_of
  unwritten_stays (begin u c) d r k a = both (begin u c) refl a
  unwritten_stays (commit u) d r k a = both (commit u) refl a
  unwritten_stays (abort u) d r k a = let i = here n some s b v (abort u) refl a in through true s _ _ _ n After (abort_outcome s u) a i.size
      (λ h c. abort_stays n some s b i h u x (d u (eq-eqb u u refl)) (abort_facts s n u c))
  unwritten_stays (grant c p y) d r k a = both (grant c p y) refl a
  unwritten_stays (lock_read u p) d r k a = both (lock_read u p) refl a
  unwritten_stays (lock_write u p) d r k a = both (lock_write u p) refl a
  unwritten_stays (read u y buffer) d r k a = both (read u y buffer) refl a
  unwritten_stays (create u y) d r k a = through true s _ _ _ n After (create_outcome s u y) a (here n some s b v (create u y) refl a).size
      (λ h c. let f = create_facts s n u y c in
      (occupy_view n s.received h.sized.received_len y f.object.low f.object.top x ∙ rw (other_object u y (d u (eq-eqb u u refl)) f.txn f.object.page f.lock), refl))
  unwritten_stays (set_word u y f w) d r k a = through true s _ _ _ n After (set_outcome s u y f w) a (here n some s b v (set_word u y f w) refl a).size
      (λ h c. let q = set_facts s n u y f w c in
      (written_view n s.received h.sized.received_len y q.object.low q.object.top f w q.field x ∙ rw (other_object u y (d u (eq-eqb u u refl)) q.txn q.object.page q.lock), refl))
  unwritten_stays (flush u p image) d r k a = through (eqb (length image) page_words) s _ _ _ n After (flush_outcome s u p image) a (here n some s b v (flush u p image) refl a).size
      (λ h c. let f = flush_facts s n u p image c in
      (refl, copied_view n s.received s.copies p h.sized.received_len h.sized.copies_len f.page x ∙ rw (elsewhere u p (d u (eq-eqb u u refl)) f.txn f.page f.lock) refl))
  unwritten_stays force d r k a = both force refl a
  unwritten_stays (store p) d r k a = both (store p) refl a
  unwritten_stays empty d r k a = both empty refl a
  unwritten_stays pass d r k a = both pass refl a
  unwritten_stays step d r k a =
      let i = here n some s b v step refl a in
      let o = (step_outcome s).ran a in
      let h' = opened true s o.n o.ready in
      let e : o.n ≡ n = sym h'.sized.count ∙ i.size in
      let z : call_step s ≡ stepped s n = o.gives ∙ ap (stepped s) e in
      step_stays n s b i (rw e at h') (k refl).0 x (k refl).1 (step_facts s o.passed).one_runs (call_step s) (step_way s n (call_step s) a z)
  unwritten_stays reopen d r k a = clash refl r
  unwritten_stays restep d r k a = clash refl r
  unwritten_stays (mark u m) d r k a = both (mark u m) refl a
  unwritten_stays (back u m) d r k a = back_leaves n some s b v u m a x (d u (eq-eqb u u refl))
  unwritten_stays (look q) d r k a = both (look q) refl a

-- another's call, and an object on a page that t holds: nobody else writes it
module _ (n : ℕ) (some : 1 ≤ n) (s : Areas) (b : Book) (v : Inv3 n s b) (l : Granted) (g : Agrees n s.work l) (t x : ℕ) (lock : holds l t (page_of x) ≡ true) where
  unwritten : OpenInv n s b → (u : ℕ) → eqb u t ≡ false → (locks_of s.work n).wr u (page_of x) ≡ false
  unwritten i u d = by_bool ((locks_of s.work n).wr u (page_of x))
      (λ e. elim (or_cases ((locks_of s.work n).rd t (page_of x)) ((locks_of s.work n).wr t (page_of x)) (sym (g.holders t (page_of x)) ∙ lock)) [
        | inl k ↦ clash k (i.collector.exclusive.alone u t (page_of x) e)
        | inr k ↦ absurd (eqb-false u t d (i.collector.exclusive.sole u t (page_of x) e k))
      ])
      (λ e. e)

  pub foreign_stays : (c : Call) → own t c ≡ false → reopens c ≡ false → (c ≡ step → (tables_of s.work n).kn t x ≡ true) → accepted (perform s c).answer ≡ true → Stays s (perform s c).after x
  foreign_stays c d r k a = unwritten_stays n some s b v x c
      (λ u e. unwritten (here n some s b v c r a) u (ne_eqb u t (λ z. clash (rw z at e) d))) r (λ e. (t, k e)) a
