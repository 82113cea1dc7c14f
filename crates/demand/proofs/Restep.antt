-- An accepted reopening step keeps the invariant: a page stored, lastly the log emptied. n is the number of pages. Assumes nothing.
use Prim.Native.Nat.{ℕ, ◌+◌, ◌*◌, ◌-◌, ◌≤◌, ◌<◌}
use native.Mathlib.Omega.{arith}
use native.Mathlib.Decide.{dec_lt}
use mathlib.Core.Path.{◌≡◌, refl, sym, ap, ◌∙◌, subst}
use mathlib.Core.Bool.{Bool, true}
use mathlib.Core.List.{List}
use lib.ListN.{length, set, length-set}
use lib.Seq.{get_or-set_same, get_or-set_other}
use lib.Dec.{eqb}
use borrow.Author.Tests.{lt-ltb, le-ltb}
use Rattle.pages.specs.Geometry.{page_at, page_words}
use Rattle.pages.specs.Objects.{copied_page}
use Rattle.page_laws.specs.Runs.{copied_inside, copied_outside}
use Rattle.page_laws.specs.ViewLaws.{length_copied}
use Rattle.areas.specs.Answers.{accepted}
use Rattle.areas.specs.Areas.{Areas}
use Rattle.words.specs.Spans.{fill, length_fill}
use Rattle.areas.specs.Layout.{undoing_at}
use Rattle.areas.specs.Tables.{at}
use Rattle.areas.specs.Entry.{records, reopening}
use Rattle.calls.specs.Calls.{restep, perform}
use Rattle.calls.specs.Reopening.{call_restep, page_stored, reopening_over}
use Rattle.acceptance.specs.Lengths.{Sized}
use Rattle.acceptance.specs.Reopening.{restep_outcome, restep_facts}
use Rattle.book.specs.Books.{Stage, opened, storing, Book, committed_lines, committed_pages}
use Rattle.book.specs.Feeding.{fed, stepped, at_stage}
use Rattle.collector.specs.Objects.{page_of}
use Rattle.collector.specs.State.{mix}
use Rattle.machine_view.specs.View.{view}
use Rattle.recovery_proof.specs.Lines as Log
use Rattle.recovery_proof.specs.Shapes.{shapes}
use Rattle.recovery_proof.proofs.Cells.{same_self, same_trans, same_mix, same_eq, replay_cells, undo_cells}
use Rattle.recovery_proof.proofs.Decided.{SameCells, decided}
use Rattle.book_laws.proofs.Invariant.{stage_inv}
use Rattle.book_laws.proofs.Pages.{committed_view}
use Rattle.demand.proofs.State.{stable, Waiting, StoringInv, Inv3, open_store, cut_store, reopening_store}
use Rattle.demand.proofs.HoldsWaiting.{step_entered, storing_reopens}
use Rattle.demand.proofs.Copying.{copied_view}
use Rattle.demand.proofs.Notes.{filled_clear}
use Rattle.demand.proofs.Rest.{Resting, rest_open}

module _ (n : ℕ) (some : 1 ≤ n) (s : Areas) (b : Book) (k : ℕ) (i : StoringInv n s b k) (size : Sized s n) where
  -- where no stable record writes, the committed state is as stored
  copies_cells : SameCells (stable s) (view s.copies) (view s.stored)
  copies_cells = same_eq (stable s) (view s.copies) (λ x. Log.undo x Log.everyone (shapes (stable s)) (Log.replay (view s.stored) x (shapes (stable s)))) (view s.stored)
      (λ x. ap (λ (a : List ℕ). view a x) i.copies ∙ committed_view n b i.waiting.sound x ∙ sym (i.waiting.gives x))
      (same_trans (stable s) (undo_cells (stable s) Log.everyone (λ x. Log.replay (view s.stored) x (shapes (stable s)))) (replay_cells (stable s) (view s.stored)))

  module _ (less : k < n) where
    abbrev stored' : List ℕ
    stored' = copied_page s.copies s.stored k

    stored_length : length stored' ≡ page_words * n
    stored_length = length_copied n s.copies s.stored k size.copies_len size.stored_len less

    stored_cells : SameCells (stable s) (view stored') (view s.stored)
    stored_cells = let q : ℕ → Bool = λ x. eqb (page_of x) k in
        same_eq (stable s) (view stored') (mix q (view s.copies) (view s.stored)) (view s.stored)
        (copied_view n s.copies s.stored k size.copies_len size.stored_len less)
        (same_mix (stable s) q (view s.copies) (view s.stored) (view s.stored) copies_cells (same_self (stable s) (view s.stored)))

    -- one page more is as committed
    stored_words : (j : ℕ) → j < page_words * (k + 1) → at stored' j ≡ at (committed_pages b) j
    stored_words j l =
        let f : page_at k + page_words ≤ length s.copies = let e = size.copies_len in omega arith in
        let t : page_at k + page_words ≤ length s.stored = let e = size.stored_len in omega arith in
        elim (dec_lt j (page_words * k)) [
          | yes h ↦ copied_outside s.copies s.stored (page_at k) page_words f t j (λ m d e. omega arith) ∙ i.stored j h
          | no h ↦ (let e : page_at k + (j - page_words * k) ≡ j = omega arith in
              subst (λ (m : ℕ). at stored' m ≡ at s.copies m) e (copied_inside s.copies s.stored (page_at k) page_words f t (j - page_words * k) (omega arith))
              ∙ ap (λ (a : List ℕ). at a j) i.copies)
        ]

    page_waits : Waiting n (page_stored s k) (at_stage b (storing (k + 1)))
    unfolding page_stored committed_lines
    page_waits = let w = i.waiting in record {
      book = stage_inv b w.book (storing (k + 1));
      sound = w.sound;
      idle = w.idle;
      forgot = w.forgot;
      all_stable = w.all_stable;
      whole = w.whole;
      leads = w.leads;
      order = w.order;
      gives = λ x. ap (Log.undo x Log.everyone (shapes (stable s))) (decided (stable s) (view stored') (view s.stored) stored_cells x) ∙ w.gives x;
    }

    page_kept : StoringInv n (page_stored s k) (at_stage b (storing (k + 1))) (k + 1)
    unfolding page_stored committed_lines
    page_kept = record {
      size = rw stored_length (omega arith);
      stage = refl;
      word = get_or-set_other s.work 1 0 (k + 1) 0 (λ z. omega arith) ∙ i.word;
      page = get_or-set_same s.work 1 (k + 1) 0 (let e = size.work_len in omega arith);
      waiting = page_waits;
      received = i.received;
      copies = i.copies;
      counts = i.counts;
      stored = stored_words;
      clear = λ j l. get_or-set_other s.work 1 j (k + 1) 0 (λ z. omega arith) ∙ i.clear j l;
    }

  -- the last step
  abbrev cleared : List ℕ
  cleared = fill (λ k. 0) s.work (undoing_at n 0) (records s)

  over_rests : s.stored ≡ committed_pages b → Resting n (reopening_over s n) (at_stage b opened)
  unfolding reopening_over committed_lines
  over_rests h = let w = i.waiting in record {
    size = i.size;
    stage = refl;
    word = get_or-set_other (set cleared 0 2) 1 0 0 0 (λ z. omega arith)
        ∙ get_or-set_same cleared 0 2 0 (let e = size.work_len in let d = length_fill (λ k. 0) s.work (undoing_at n 0) (records s) in omega arith);
    clear = λ j l. get_or-set_other (set cleared 0 2) 1 j 0 0 (λ z. omega arith) ∙ get_or-set_other cleared 0 j 2 0 (λ z. omega arith)
        ∙ filled_clear s.work (undoing_at n 0) (records s) j (let e = size.work_len in omega arith) (i.clear j l);
    received_count_law = get_or-set_other (set s.counts 0 0) 1 0 0 0 (λ z. omega arith) ∙ get_or-set_same s.counts 0 0 0 (let e = size.counts_len in omega arith);
    stable_count_law = get_or-set_same (set s.counts 0 0) 1 0 0 (rw (length-set s.counts 0 0) (let e = size.counts_len in omega arith));
    stored = h;
    copies = i.copies;
    received = i.received;
    book = stage_inv b w.book opened;
    sound = w.sound;
    idle = w.idle;
    forgot = w.forgot;
    all_stable = w.all_stable;
    whole = w.whole;
    leads = w.leads;
  }

  step_kept : k ≤ n → accepted (call_restep s).answer ≡ true → Inv3 n (call_restep s).after (at_stage b (stepped n b.stage))
  unfolding perform reopening_over
  step_kept l a = let g = (step_entered n some s b k i a).1 in elim (dec_lt k n) [
    | yes h ↦ (let e : (call_restep s).after ≡ page_stored s k = g ∙ rw (i.page, lt-ltb k n h) refl in
        let d : stepped n b.stage ≡ storing (k + 1) = rw (i.stage, lt-ltb k n h) refl in
        rw e (subst (λ (t : Stage). Inv3 n (page_stored s k) (at_stage b t)) (sym d) (reopening_store (k + 1) (omega arith) (page_kept h))))
    | no h ↦ (let z : k ≡ n = omega arith in
        let e : (call_restep s).after ≡ reopening_over s n = g ∙ rw (i.page, le-ltb k n (omega arith)) refl in
        let d : stepped n b.stage ≡ opened = rw (i.stage, le-ltb k n (omega arith)) refl in
        let c : s.stored ≡ committed_pages b = sym (ap (λ (x : Areas). x.stored) e) ∙ (storing_reopens n some s b k i).stored a (i.stage ∙ ap storing z) in
        rw e (subst (λ (t : Stage). Inv3 n (reopening_over s n) (at_stage b t)) (sym d) (open_store (rest_open n some (reopening_over s n) (at_stage b opened) (over_rests c)))))
  ]

-- no reopening step is accepted unless one runs
not_running : {A : Type 0} (s : Areas) → (reopening s ≡ 1 → ⊥) → accepted (call_restep s).answer ≡ true → A
not_running s h a = absurd (h (restep_facts s ((restep_outcome s).ran a).passed).running)

pub restep_kept : (n : ℕ) → 1 ≤ n → (s : Areas) (b : Book) → Inv3 n s b → accepted (call_restep s).answer ≡ true
    → Inv3 n (call_restep s).after (fed n b restep s.received (call_restep s).after.received)
unfolding fed
restep_kept n some s b (open_store i) a = not_running s (λ e. let z = i.word in omega arith) a
restep_kept n some s b (cut_store i) a = not_running s (λ e. let z = i.word in omega arith) a
restep_kept n some s b (reopening_store k l i) a = step_kept n some s b k i (step_entered n some s b k i a).0.sized l a
