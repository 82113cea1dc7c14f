-- How long a pass takes, by the tally, at every point of every list. n is the number of pages. Assumes nothing.
use Rattle.std.specs.Prelude.{Err, Ok}
use Prim.Native.Nat.{ℕ, zero, suc, ◌+◌, ◌≤◌, ◌<◌}
use native.Mathlib.Omega.{arith}
use native.Mathlib.Numerals.{add-one}
use mathlib.Core.Path.{◌≡◌, refl, sym, ap, ◌∙◌, subst}
use mathlib.Core.Bool.{Bool, true, false, not, ◌||◌}
use mathlib.Core.List.{List}
use lib.Dec.{eqb, leb}
use borrow.Author.Tests.{eqb-true, eqb-false, eq-eqb, le-leb, not-true, not-false}
use Rattle.words.specs.Tests.{count, by_bool, clash}
use Rattle.pages.specs.Geometry.{object_count}
use Rattle.areas.specs.declared.Refusal.TheVariants.{WrongState, LogFull}
use Rattle.areas.specs.Answers.{accepted, unless, verdict, all_passed, need_holds, need_fails}
use Rattle.areas.specs.Areas.{Areas, Out, checked}
use Rattle.areas.specs.Layout.{phase_at, pass_page_at, steps_at, colour_at, colour_top}
use Rattle.areas.specs.Tables.{at, pass_runs, is_marking, is_black}
use Rattle.areas.specs.Entry.{pages, records, called_refused, called_passed}
use Rattle.calls.specs.Calls.{perform, step}
use Rattle.calls.specs.Pass.{lowest_grey, marked, sweep_tests, swept, step_tests, call_step}
use Rattle.calls.specs.PassShares.{pass_bound}
use Rattle.calls.specs.Room.{sweep_room, room_beyond}
use Rattle.acceptance.specs.Entered.{open_formed}
use Rattle.acceptance.specs.Pass.{sweep_map_of, sweeping, stepped}
use Rattle.acceptance.specs.Working.{Working}
use Rattle.book.specs.Books.{Book, opened}
use Rattle.book.specs.Demand.{call, Point, accepts, after}
use Rattle.collector.specs.Bits.{countb}
use Rattle.collector.specs.State as M
use Rattle.collector.proofs.Steps.{steps_most}
use Rattle.machine_calls.specs.Tables.{colour_of, phase_of, colour_at_object, pass_of}
use Rattle.demand.proofs.State.{machine, OpenInv, open_store, cut_store, reopening_store}
use Rattle.demand.proofs.Holds.{sweeping_phase}
use Rattle.demand.proofs.HoldsWaiting.{awaiting_opened, storing_opened}
use Rattle.guarantees.specs.Ledgers.{kept}
use Rattle.guarantees.specs.Steps.{tally, bound_at, scanned_at, swept_at, Tallied, AlwaysTallied}
use Rattle.guarantees.proofs.Fine.{Fine}
use Rattle.guarantees.proofs.Always.{Sure, keep_sure}
use Rattle.guarantees.proofs.Refusals.{formed}
use Rattle.guarantees.proofs.Ledgers.{always_kept}
use Rattle.guarantees.proofs.Tally.{Counts, Rests, Stepping, not_idle, keep_stepping, start_stepping, disk_stepping}

-- the phase word
is_idle : (k : ℕ) → not (eqb k 0) ≡ false → phase_of k ≡ M.idle
is_idle k e = rw (eqb-true k 0 (not-false _ e)) refl

-- the black objects, by the words and by the machine
black_word : (k : ℕ) → k ≤ colour_top → eqb k 2 ≡ M.is_black (colour_of k)
black_word zero l = refl
black_word (suc zero) l = refl
black_word (suc (suc zero)) l = refl
black_word (suc (suc (suc k))) l = absurd (omega arith)

black_at : (n l : ℕ) (w : List ℕ) → Working w n l → (k : ℕ) → suc k ≤ object_count n → is_black w n (k + 1) ≡ M.is_black (colour_at_object w n (suc k))
unfolding colour_at_object
black_at n l w r k h = rw (add-one k, le-leb 1 (suc k) (omega arith), le-leb (suc k) (object_count n) h) (black_word (at w (colour_at n (suc k))) (r.colours (suc k) (omega arith) h))

black_count : (n l : ℕ) (w : List ℕ) → Working w n l → (m : ℕ) → m ≤ object_count n → count (λ k. is_black w n (k + 1)) m ≡ countb m (λ k. M.is_black (colour_at_object w n (suc k)))
unfolding count countb
black_count n l w r zero h = refl
black_count n l w r (suc m) h =
    let ih = black_count n l w r m (omega arith) in
    let e = black_at n l w r m h in
    by_bool (is_black w n (m + 1))
    (λ d. let k : M.is_black (colour_at_object w n (suc m)) ≡ true = sym e ∙ d in rw (d, k) (omega arith))
    (λ d. let k : M.is_black (colour_at_object w n (suc m)) ≡ false = sym e ∙ d in rw (d, k) (omega arith))

-- an open store
module _ (n : ℕ) (s : Areas) (b : Book) (i : OpenInv n s b) (z : Fine n s b) (l : ℕ) (g : Counts n s.work l) where
  abbrev w : List ℕ
  w = s.work

  word : Working w n (records s)
  word = rw i.size at (open_formed true s (formed n s b z true refl) i.word).ranged.working

  running : pass_runs w ≡ true → at w phase_at ≡ 0 → ⊥
  running e = eqb-false (at w phase_at) 0 (not-true _ e)

  runs_so : pass_runs w ≡ true → at w steps_at ≡ l
  runs_so e = g.runs (not_idle (at w phase_at) (running e))

  most_so : pass_runs w ≡ true → l < pass_bound n
  most_so e = let k = runs_so e in let m = steps_most (machine n s b) i.collector in omega arith

  rests_so : pass_runs w ≡ false → at w steps_at ≡ 0
  rests_so e = i.collector.counted.over (is_idle (at w phase_at) e)

  blacks_so : count (λ k. is_black w n (k + 1)) (object_count n) ≡ M.blacks (object_count n) (pass_of w n).col
  blacks_so = black_count n (records s) w word (object_count n) (omega arith)

  marking_so : is_marking w ≡ true → l ≡ count (λ k. is_black w n (k + 1)) (object_count n)
  marking_so e = let p = eqb-true (at w phase_at) 1 e in
      sym (g.runs (rw p refl)) ∙ i.collector.counted.scanned (rw p refl) ∙ sym blacks_so

  sweeping_so : pass_runs w ≡ true → is_marking w ≡ false → l ≡ count (λ k. is_black w n (k + 1)) (object_count n) + 1 + at w pass_page_at
  sweeping_so e d = let k = i.collector.counted.turned (sweeping_phase (at w phase_at) (running e) d) in let m = runs_so e in let c = blacks_so in omega arith

-- a point: where the store is not open, no pass runs
module _ (n : ℕ) (q : Point) (l : ℕ) (u : Sure n q) (j : Stepping n q l) where
  abbrev s : Areas
  s = q.store

  abbrev b : Book
  b = q.book

  size : pages s ≡ n
  size = u.fine.sized.count

  bound_is : bound_at q ≡ pass_bound n
  bound_is = rw size (omega arith)

  by_store : {A : Type 0} → (OpenInv n s b → A) → (Rests n s.work → A) → A
  by_store f g = elim u.inv [
    | open_store i ↦ f i
    | cut_store i ↦ g (j.closed (λ e. awaiting_opened (sym i.stage ∙ e)))
    | reopening_store k h i ↦ g (j.closed (λ e. storing_opened (sym i.stage ∙ e)))
  ]

  -- no pass runs in such a store
  not_running : {A : Type 0} → Rests n s.work → pass_runs s.work ≡ true → A
  not_running r e = clash r.idle (not_idle (at s.work phase_at) (eqb-false (at s.work phase_at) 0 (not-true _ e)))

  pub below_so : pass_runs s.work ≡ true → l < bound_at q
  below_so e = by_store (λ i. rw bound_is (most_so n s b i u.fine l j.counts e)) (λ r. not_running r e)

  marks_runs : is_marking s.work ≡ true → pass_runs s.work ≡ true
  marks_runs e = rw (eqb-true (at s.work phase_at) 1 e) refl

  scanned_so : is_marking s.work ≡ true → l ≡ scanned_at q
  scanned_so e = by_store (λ i. rw size (marking_so n s b i u.fine l j.counts e)) (λ r. not_running r (marks_runs e))

  swept_so : pass_runs s.work ≡ true → is_marking s.work ≡ false → l ≡ scanned_at q + 1 + swept_at q
  swept_so e d = by_store (λ i. rw size (let k = sweeping_so n s b i u.fine l j.counts e d in omega arith)) (λ r. not_running r e)

  -- a step at the bound
  over_so : b.stage ≡ opened → l ≡ bound_at q → (perform s step).answer ≡ Err WrongState
  unfolding perform call_step step_tests
  over_so e d = let still : pass_runs s.work ≡ false = by_bool (pass_runs s.work) (λ k. absurd (let m = below_so k in omega arith)) (λ k. k) in
      elim u.inv [
        | open_store i ↦ ap (λ (o : Out). o.answer) (sym (called_refused _ _ s _ _ WrongState (formed n s b u.fine true refl) (eq-eqb _ _ i.word) (need_fails _ _ _ _ still)))
        | cut_store i ↦ absurd (awaiting_opened (sym i.stage ∙ e))
        | reopening_store k h i ↦ absurd (storing_opened (sym i.stage ∙ e))
      ]

-- a step past refusals 1, 2 and 4, which is refused
no_room : (b : Bool) (s : Areas) (o : Out) → accepted o.answer ≡ true → accepted (checked (unless b LogFull (Ok tt)) s o).answer ≡ false → (checked (unless b LogFull (Ok tt)) s o).answer ≡ Err LogFull
no_room true s o a e = clash a e
no_room false s o a e = refl

held_up : (s : Areas) (n : ℕ) → accepted (stepped s n).answer ≡ false → (stepped s n).answer ≡ Err LogFull
unfolding marked swept sweep_tests verdict
held_up s n = by_bool (is_marking s.work)
    (λ e. by_bool (leb (lowest_grey s.work n) (object_count n)) (λ k a. clash refl (rw (e, k) at a)) (λ k a. clash refl (rw (e, k) at a)))
    (λ e. rw e (no_room (eqb (sweep_map_of s n) 0 || room_beyond s n sweep_room) s (sweeping s n) refl))

stalls_so : (n : ℕ) (q : Point) (l : ℕ) → Sure n q → Stepping n q l → pass_runs q.store.work ≡ true → accepts q step ≡ false → (perform q.store step).answer ≡ Err LogFull
unfolding perform call_step step_tests
stalls_so n q l u j e a = by_store n q l u j
    (λ i. let d = called_passed _ _ q.store _ _ (formed n q.store q.book u.fine true refl) (eq-eqb _ _ i.word) (all_passed ∙ need_holds _ _ _ _ e) in
    ap (λ (o : Out). o.answer) (sym d) ∙ held_up q.store (pages q.store) (ap (λ (o : Out). accepted o.answer) d ∙ a))
    (λ r. not_running n q l u j r e)

-- the step that reaches the bound
tally_step : (q : Point) (l : ℕ) → accepts q step ≡ true → kept tally q l (call step) ≡ suc l
unfolding kept
tally_step q l a = rw a refl

ends_so : (n : ℕ) (q : Point) (l : ℕ) → Sure n q → Stepping n q l → accepts q step ≡ true → l + 1 ≡ bound_at q → pass_runs (perform q.store step).after.work ≡ false
unfolding after
ends_so n q l u j a e =
    let some = u.fine.sized.low in
    let q' = after n q (call step) in
    let j' : Stepping n q' (suc l) = subst (Stepping n q') (tally_step q l a) (keep_stepping n some q l (call step) u j) in
    let u' = keep_sure n some q (call step) u in
    by_bool (pass_runs (perform q.store step).after.work)
    (λ k. absurd (let m = below_so n q' (suc l) u' j' k in let c = bound_is n q l u j in let d = bound_is n q' (suc l) u' j' in omega arith))
    (λ k. k)

tallied_so : (n : ℕ) (q : Point) (l : ℕ) → Sure n q → Stepping n q l → Tallied q l
tallied_so n q l u j = record {
  most = rw (bound_is n q l u j) j.counts.most;
  kept = λ e. j.counts.runs (not_idle (at q.store.work phase_at) (eqb-false (at q.store.work phase_at) 0 (not-true _ e)));
  below = below_so n q l u j;
  rests = λ e. by_store n q l u j (λ i. rests_so n q.store q.book i u.fine l j.counts e) (λ r. r.none);
  scanned = scanned_so n q l u j;
  swept = swept_so n q l u j;
  ends = ends_so n q l u j;
  over = over_so n q l u j;
  stalls = stalls_so n q l u j;
}

pub always_tallied : AlwaysTallied
always_tallied = always_kept ℕ tally Stepping Tallied keep_stepping tallied_so start_stepping disk_stepping
