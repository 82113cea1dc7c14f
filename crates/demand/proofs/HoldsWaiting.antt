-- What the invariant gives between a cut, or an accepted reopen, and the last reopening step. n is the number of pages. Assumes nothing.
use Prim.Native.Nat.{ℕ, ◌≤◌}
use native.Mathlib.Omega.{arith}
use mathlib.Core.Path.{◌≡◌, refl, sym, ap, ◌∙◌}
use mathlib.Core.Bool.{true, false, not}
use lib.Seq.{ext_get_or}
use borrow.Author.Tests.{le-ltb}
use Rattle.words.specs.Tests.{and_false, or_false}
use Rattle.areas.specs.Answers.{accepted}
use Rattle.areas.specs.Areas.{Areas, Out}
use Rattle.areas.specs.Layout.{reopening_page_at}
use Rattle.areas.specs.Tables.{at}
use Rattle.areas.specs.Entry.{reopening}
use Rattle.calls.specs.Calls.{step, perform}
use Rattle.calls.specs.Reopening.{call_restep, reopening_over}
use Rattle.acceptance.specs.Entered.{Entered, opened, entered}
use Rattle.acceptance.specs.Pass.{step_outcome}
use Rattle.acceptance.specs.Reopening.{restep_outcome, restepped}
use Rattle.book.specs.Books as Books
use Rattle.book.specs.Books.{Book, storing, committed_lines, full_lines, committed_pages, full_pages, counts_full, counts_committed}
use Rattle.book.specs.Demand.{Holds, Spares, Reopens}
use Rattle.book.specs.Pointers.{Leads}
use Rattle.book_laws.proofs.Running.{runs_none}
use Rattle.book_laws.proofs.Committed.{filtered_same}
use Rattle.book_laws.proofs.Pages.{committed_length}
use Rattle.demand.proofs.State.{Waiting, AwaitInv, StoringInv}

-- nobody runs: the full pages are the committed ones
pub idle_full : (b : Book) → ((t : ℕ) → b.running t ≡ 0) → full_lines b ≡ committed_lines b
unfolding full_lines committed_lines
idle_full b h = filtered_same (counts_full b) (counts_committed b) b.lines (λ l i. rw (runs_none b l.owner h, and_false (not l.struck)) (or_false (counts_committed b l)))

pub waiting_full : (n : ℕ) (s : Areas) (b : Book) → Waiting n s b → Leads (full_pages b) (full_lines b)
waiting_full n s b w = rw (idle_full b w.idle) w.leads

-- no pass step is accepted before the reopening is finished
no_step : {A : Type 0} (s : Areas) → (reopening s ≡ 2 → ⊥) → accepted (perform s step).answer ≡ true → A
unfolding perform
no_step s h a = let k = (step_outcome s).ran a in absurd (h (opened true s k.n k.ready).finished)

pub waiting_spares : (n : ℕ) (s : Areas) (b : Book) → (reopening s ≡ 2 → ⊥) → Spares n (record { store = s; book = b })
waiting_spares n s b h = record { reached = λ o a. no_step s h a; known = λ t o a. no_step s h a }

-- the stages apart
pub awaiting_opened : {A : Type 0} → Books.awaiting ≡ Books.opened → A
awaiting_opened e = let z : ◌≡◌ {A = ℕ} 0 1 = cc in absurd (omega arith)

pub awaiting_storing : {A : Type 0} {k : ℕ} → Books.awaiting ≡ storing k → A
awaiting_storing e = let z : ◌≡◌ {A = ℕ} 0 1 = cc in absurd (omega arith)

pub storing_opened : {A : Type 0} {k : ℕ} → storing k ≡ Books.opened → A
storing_opened e = let z : ◌≡◌ {A = ℕ} 0 1 = cc in absurd (omega arith)

storing_same : {j k : ℕ} → storing j ≡ storing k → j ≡ k
storing_same e = cc

pub await_holds : (n : ℕ) (s : Areas) (b : Book) → AwaitInv n s b → Holds n (record { store = s; book = b })
await_holds n s b i = record {
  shown = λ e. awaiting_opened (sym i.stage ∙ e);
  finished = λ e. absurd (let z = i.word in omega arith);
  committed = i.waiting.leads;
  full = waiting_full n s b i.waiting;
  spares = waiting_spares n s b (λ e. let z = i.word in omega arith);
  reopens = record {
    stored = λ a e. awaiting_storing (sym i.stage ∙ e);
    copies = λ a e. awaiting_storing (sym i.stage ∙ e);
    received = λ a e. awaiting_storing (sym i.stage ∙ e);
  };
}

module _ (n : ℕ) (some : 1 ≤ n) (s : Areas) (b : Book) (k : ℕ) (i : StoringInv n s b k) where
  -- an accepted step has n pages
  pub step_entered : accepted (call_restep s).answer ≡ true → Entered false true s n × ((call_restep s).after ≡ restepped s n)
  step_entered a =
      let r = (restep_outcome s).ran a in
      let h = entered false true s r.n r.ready in
      let e : r.n ≡ n = sym h.sized.count ∙ i.size in
      (rw e at h, ap (λ (o : Out). o.after) r.gives ∙ ap (restepped s) e)

  -- the last step: all pages are stored
  last : k ≡ n → restepped s n ≡ reopening_over s n
  last e = let p : at s.work reopening_page_at ≡ n = i.page ∙ e in rw (p, le-ltb n n (omega arith)) refl

  all_stored : k ≡ n → Entered false true s n → s.stored ≡ committed_pages b
  all_stored e h = ext_get_or 0 s.stored (committed_pages b) (h.sized.stored_len ∙ sym (committed_length n b i.waiting.sound)) (λ j l. i.stored j (let q = h.sized.stored_len in rw e (omega arith)))

  pub storing_reopens : Reopens n (record { store = s; book = b })
  unfolding perform reopening_over
  storing_reopens = record {
    stored = λ a e. let q = step_entered a in let z = storing_same (sym i.stage ∙ e) in ap (λ (x : Areas). x.stored) (q.1 ∙ last z) ∙ all_stored z q.0;
    copies = λ a e. let q = step_entered a in let z = storing_same (sym i.stage ∙ e) in ap (λ (x : Areas). x.copies) (q.1 ∙ last z) ∙ i.copies;
    received = λ a e. let q = step_entered a in let z = storing_same (sym i.stage ∙ e) in ap (λ (x : Areas). x.received) (q.1 ∙ last z) ∙ i.received;
  }

  pub storing_holds : Holds n (record { store = s; book = b })
  storing_holds = record {
    shown = λ e. storing_opened (sym i.stage ∙ e);
    finished = λ e. absurd (let z = i.word in omega arith);
    committed = i.waiting.leads;
    full = waiting_full n s b i.waiting;
    spares = waiting_spares n s b (λ e. let z = i.word in omega arith);
    reopens = storing_reopens;
  }
