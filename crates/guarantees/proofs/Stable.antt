-- Each call makes at most one stable store. Assumes nothing.
use Prim.Native.Nat.{ℕ, ◌+◌, ◌*◌, ◌-◌, ◌≤◌, ◌<◌}
use native.Mathlib.Omega.{arith}
use mathlib.Core.Path.{◌≡◌, refl, sym, ap, ◌∙◌, subst}
use mathlib.Core.Bool.{Bool, true, false}
use mathlib.Core.List.{List, [], ◌∷◌}
use lib.ListN.{length, set, length-set}
use lib.Seq.{get_or-set_same, get_or-set_other}
use lib.Dec.{eqb, ltb}
use borrow.Author.Tests.{ltb-true}
use Rattle.words.specs.Tests.{by_bool}
use Rattle.pages.specs.Geometry.{page_at, slot_words, page_words}
use Rattle.pages.specs.Objects.{copied_page}
use Rattle.page_laws.specs.Runs.{copied_inside, copied_outside}
use Rattle.page_laws.specs.ViewLaws.{length_copied}
use Rattle.records.specs.declared.Record.{Record}
use Rattle.records.specs.Records.{record_at, recorded, aborted_of, record_words}
use Rattle.records.specs.Effects.{undoing}
use Rattle.areas.specs.Answers.{accepted, Test}
use Rattle.areas.specs.Areas.{Areas, Out, received_count, stable_count, with_work, appended}
use Rattle.areas.specs.Layout.{reopening_page_at}
use Rattle.areas.specs.Tables.{at}
use Rattle.calls.specs.Calls.{Call, perform}
use Rattle.calls.specs.Calls.Call.{begin, commit, abort, grant, lock_read, lock_write, read, create, set_word, flush, force, store, empty, pass, step, reopen, restep, mark, back, look}
use Rattle.calls.specs.Objects.{created, word_set, flushed}
use Rattle.calls.specs.Pass.{swept_page}
use Rattle.calls.specs.Reopening.{reopened, page_stored, reopening_over}
use Rattle.calls.specs.Transactions.{begun, committed, rolled_back, aborted, changes_of}
use Rattle.calls.specs.Marks.{mark_set, since_mark, went_back, back_to}
use Rattle.acceptance.specs.Calls.{refused_keeps}
use Rattle.acceptance.specs.Entered.{Open, opened, entered}
use Rattle.acceptance.specs.Lengths.{Sized}
use Rattle.acceptance.specs.Ran.{Outcome}
use Rattle.acceptance.specs.Transactions.{begin_outcome, commit_outcome, abort_outcome}
use Rattle.acceptance.specs.Rights.{grant_outcome}
use Rattle.acceptance.specs.Locks.{lock_read_outcome, lock_write_outcome}
use Rattle.acceptance.specs.Objects.{read_outcome, create_outcome, set_outcome, flush_outcome}
use Rattle.acceptance.specs.Stability.{force_outcome, store_outcome, store_facts, empty_outcome}
use Rattle.acceptance.specs.Pass.{pass_outcome, step_outcome, step_way, StepWay, scans, turns, sweeps, sweep_map_of}
use Rattle.acceptance.specs.Reopening.{reopen_ran, restep_outcome, restepped}
use Rattle.acceptance.specs.Marks.{mark_outcome, back_outcome}
use Rattle.acceptance.specs.Looks.{look_outcome}
use Rattle.demand.proofs.GoneBack.{rolled_went}
use Rattle.guarantees.specs.Stable.{PageStored, page, count, AtMostOne, OneStableStore}

-- a call that leaves stored pages and log
same_stable : (s s' : Areas) → s'.stored ≡ s.stored → s'.log ≡ s.log → AtMostOne s s'
same_stable s s' e d = record { store = count e; kept = λ i l. ap (λ (g : List ℕ). at g i) d }

-- a record is written behind the stable ones
recorded_before : (g : List ℕ) (c : ℕ) (r : Record) (i : ℕ) → i < record_words * c → at (recorded g c r) i ≡ at g i
recorded_before g c r i l =
    let g1 = set g (record_words * c) r.kind in
    let g2 = set g1 (record_words * c + 1) r.txn in
    let g3 = set g2 (record_words * c + 2) r.object in
    let g4 = set g3 (record_words * c + 3) r.field in
    let g5 = set g4 (record_words * c + 4) r.old in
    get_or-set_other g5 (record_words * c + 5) i r.new 0 (λ z. omega arith)
    ∙ get_or-set_other g4 (record_words * c + 4) i r.old 0 (λ z. omega arith)
    ∙ get_or-set_other g3 (record_words * c + 3) i r.field 0 (λ z. omega arith)
    ∙ get_or-set_other g2 (record_words * c + 2) i r.object 0 (λ z. omega arith)
    ∙ get_or-set_other g1 (record_words * c + 1) i r.txn 0 (λ z. omega arith)
    ∙ get_or-set_other g (record_words * c) i r.kind 0 (λ z. omega arith)

appended_before : (s : Areas) (r : Record) (i c : ℕ) → c ≤ received_count s → i < record_words * c → at (appended s r).log i ≡ at s.log i
unfolding appended
appended_before s r i c h l = recorded_before s.log (received_count s) r i (omega arith)

-- several records, one after the other: c are stable
record Behind (c : ℕ) (s s' : Areas) : Type 0 where
  stored : s'.stored ≡ s.stored
  count : c ≤ received_count s'
  log : (i : ℕ) → i < record_words * c → at s'.log i ≡ at s.log i

pub rolled_stored : (g is : List ℕ) (s : Areas) → (rolled_back g is s).stored ≡ s.stored
unfolding rolled_back appended
rolled_stored g [] s = refl
rolled_stored g (j ∷ js) s = rolled_stored g js (appended s (undoing (record_at g j)))

rolled_behind : (g : List ℕ) (is : List ℕ) (c : ℕ) (s : Areas) → length s.counts ≡ 2 → c ≤ received_count s → Behind c s (rolled_back g is s)
unfolding rolled_back appended
rolled_behind g [] c s l h = record { stored = refl; count = h; log = λ i k. refl }
rolled_behind g (j ∷ js) c s l h =
    let r = undoing (record_at g j) in
    let e : received_count (appended s r) ≡ received_count s + 1 = get_or-set_same s.counts 0 (received_count s + 1) 0 (omega arith) in
    let b = rolled_behind g js c (appended s r) (length-set s.counts 0 (received_count s + 1) ∙ l) (omega arith) in
    record { stored = rolled_stored g (j ∷ js) s; count = b.count; log = λ i k. b.log i k ∙ appended_before s r i c h k }

-- a call that appends a record
one_behind : (n : ℕ) (s s' : Areas) (r : Record) → Open s n → s'.stored ≡ s.stored → s'.log ≡ (appended s r).log → AtMostOne s s'
one_behind n s s' r o e d = record {
  store = count e;
  kept = λ i l. ap (λ (g : List ℕ). at g i) d ∙ appended_before s r i (stable_count s) o.ranged.stable_le l;
}

-- a call that stores a page
page_stored_law : (n : ℕ) (s s' : Areas) (p : ℕ) → Sized s n → p < n → s'.stored ≡ copied_page s.copies s.stored p → PageStored s s' p
page_stored_law n s s' p z l e =
    let f : page_at p + page_words ≤ length s.copies = let h = z.copies_len in omega arith in
    let t : page_at p + page_words ≤ length s.stored = let h = z.stored_len in omega arith in
    record {
      size = ap length e ∙ length_copied n s.copies s.stored p z.copies_len z.stored_len l ∙ sym z.stored_len;
      whole = λ i o. ap (λ (a : List ℕ). at a i) e
          ∙ (let d : page_at p + (i - page_at p) ≡ i = let x = o.0 in omega arith in
          subst (λ (m : ℕ). at (copied_page s.copies s.stored p) m ≡ at s.copies m) d
          (copied_inside s.copies s.stored (page_at p) page_words f t (i - page_at p) (let x = o.0 in let y = o.1 in omega arith)));
      others = λ i o. ap (λ (a : List ℕ). at a i) e ∙ copied_outside s.copies s.stored (page_at p) page_words f t i (λ k h d. o (omega arith, omega arith));
    }

one_page : (n : ℕ) (s s' : Areas) (p : ℕ) → Sized s n → p < n → s'.stored ≡ copied_page s.copies s.stored p → s'.counts ≡ s.counts → s'.log ≡ s.log → AtMostOne s s'
one_page n s s' p z l e c d = record {
  store = page p (page_stored_law n s s' p z l e) (ap (λ (k : List ℕ). at k 1) c);
  kept = λ i h. ap (λ (g : List ℕ). at g i) d;
}

-- an accepted call, by what it went through: k says what it leaves
went : (own : Bool) (s : Areas) (tests : ℕ → List Test) (o : Out) (k : ℕ → Out) → Outcome true own s tests o k → accepted o.answer ≡ true
    → ((n : ℕ) → Open s n → AtMostOne s (k n).after) → AtMostOne s o.after
went own s tests o k h a f = let r = h.ran a in rw r.gives (f r.n (opened own s r.n r.ready))

abort_behind : (n : ℕ) (s : Areas) (t : ℕ) → Open s n → AtMostOne s (aborted s n t)
unfolding aborted appended
abort_behind n s t o =
    let b = rolled_behind s.log (changes_of s n t) (stable_count s) s o.sized.counts_len o.ranged.stable_le in
    record { store = count b.stored; kept = λ i l. appended_before (rolled_back s.log (changes_of s n t) s) (aborted_of t) i (stable_count s) b.count l ∙ b.log i l }

-- going back appends what rolling back those changes does
back_behind : (n : ℕ) (s : Areas) (t m : ℕ) → Open s n → AtMostOne s (back_to s n t m)
unfolding back_to
back_behind n s t m o =
    let is = since_mark s n t m in
    let b = rolled_behind s.log is (stable_count s) s o.sized.counts_len o.ranged.stable_le in
    let e : rolled_back s.log is s ≡ with_work (went_back s.log is s n t) s.work = rolled_went s.log is n t s s.work in
    record { store = count (sym (ap (λ (a : Areas). a.stored) e) ∙ b.stored); kept = λ i l. sym (ap (λ (a : Areas). at a.log i) e) ∙ b.log i l }

step_stable : (n : ℕ) (s : Areas) (o : Out) → Open s n → StepWay s n o → AtMostOne s o.after
unfolding swept_page appended
step_stable n s o h (scans e g d) = rw d (same_stable s _ refl refl)
step_stable n s o h (turns e g d) = rw d (same_stable s _ refl refl)
step_stable n s o h (sweeps e c d) = by_bool (eqb (sweep_map_of s n) 0)
    (λ z. rw (d, z) (same_stable s _ refl refl))
    (λ z. rw (d, z) (one_behind n s _ _ h refl refl))

restep_stable : (n : ℕ) (s : Areas) → Sized s n → AtMostOne s (restepped s n)
unfolding page_stored reopening_over
restep_stable n s z = by_bool (ltb (at s.work reopening_page_at) n)
    (λ e. rw e (one_page n s _ (at s.work reopening_page_at) z (ltb-true _ _ e) refl refl refl))
    (λ e. rw e (same_stable s _ refl refl))

accepted_stable : (s : Areas) (c : Call) → accepted (perform s c).answer ≡ true → AtMostOne s (perform s c).after
unfolding perform begun created word_set flushed committed appended reopened mark_set
accepted_stable s (begin t c) a = went true s _ _ _ (begin_outcome s t c) a (λ n o. one_behind n s _ _ o refl refl)
accepted_stable s (commit t) a = went true s _ _ _ (commit_outcome s t) a (λ n o. one_behind n s _ _ o refl refl)
accepted_stable s (abort t) a = went true s _ _ _ (abort_outcome s t) a (λ n o. abort_behind n s t o)
accepted_stable s (grant c p r) a = went true s _ _ _ (grant_outcome s c p r) a (λ n o. same_stable s _ refl refl)
accepted_stable s (lock_read t p) a = went true s _ _ _ (lock_read_outcome s t p) a (λ n o. same_stable s _ refl refl)
accepted_stable s (lock_write t p) a = went true s _ _ _ (lock_write_outcome s t p) a (λ n o. same_stable s _ refl refl)
accepted_stable s (read t x buffer) a = went (eqb (length buffer) slot_words) s _ _ _ (read_outcome s t x buffer) a (λ n o. same_stable s _ refl refl)
accepted_stable s (create t x) a = went true s _ _ _ (create_outcome s t x) a (λ n o. one_behind n s _ _ o refl refl)
accepted_stable s (set_word t x f v) a = went true s _ _ _ (set_outcome s t x f v) a (λ n o. one_behind n s _ _ o refl refl)
accepted_stable s (flush t p image) a = went (eqb (length image) page_words) s _ _ _ (flush_outcome s t p image) a (λ n o. same_stable s _ refl refl)
accepted_stable s force a = went true s _ _ _ (force_outcome s) a (λ n o. same_stable s _ refl refl)
accepted_stable s (store p) a =
    let r = (store_outcome s p).ran a in
    rw r.gives (one_page r.n s _ p (opened true s r.n r.ready).sized (store_facts s r.n p r.passed).page refl refl refl)
accepted_stable s empty a = went true s _ _ _ (empty_outcome s) a (λ n o. same_stable s _ refl refl)
accepted_stable s pass a = went true s _ _ _ (pass_outcome s) a (λ n o. same_stable s _ refl refl)
accepted_stable s step a = let r = (step_outcome s).ran a in step_stable r.n s (perform s step) (opened true s r.n r.ready) (step_way s r.n (perform s step) a r.gives)
accepted_stable s reopen a = let r = reopen_ran s a in rw r.gives (same_stable s _ refl refl)
accepted_stable s (mark t m) a = went true s _ _ _ (mark_outcome s t m) a (λ n o. same_stable s _ refl refl)
accepted_stable s (back t m) a = went true s _ _ _ (back_outcome s t m) a (λ n o. back_behind n s t m o)
accepted_stable s (look q) a = went q.own s _ _ _ (look_outcome s q) a (λ n o. same_stable s _ refl refl)
accepted_stable s restep a = let r = (restep_outcome s).ran a in rw r.gives (restep_stable r.n s (entered false true s r.n r.ready).sized)

pub one_stable_store : OneStableStore
one_stable_store s c = by_bool (accepted (perform s c).answer) (λ a. accepted_stable s c a) (λ a. rw (refused_keeps s c a) (same_stable s s refl refl))
