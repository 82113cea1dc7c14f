-- Document 01, 'Reopening' and formatting: what an accepted reopen, reopening step and format know. Assumes nothing.
use Rattle.std.specs.Prelude.{ℕ, ◌≤◌, ◌≡◌, refl, true, false, List, leb, ltb, Ok}
use Rattle.std.proofs.Common.{leb-true, eqb-true}
use Rattle.words.specs.Tests.{if, all, and_split}
use Rattle.pages.specs.Soundness.{area_sound, free_zero}
use Rattle.records.specs.Order.{log_sound}
use Rattle.records.specs.Recovery.{recovered, recoverable}
use Rattle.areas.specs.Answers.{accepted, verdict, passed}
use Rattle.areas.specs.Areas.{Areas, done, stable_count}
use Rattle.areas.specs.Layout.{reopening_page_at, running}
use Rattle.areas.specs.Tables.{at}
use Rattle.areas.specs.Entry.{pages, records, reopening}
use Rattle.calls.specs.Reopening.{reopen_tests, reopened, call_reopen, restep_tests, page_stored, reopening_over, call_restep}
use Rattle.acceptance.specs.Lengths.{Sized, sized}
use Rattle.acceptance.specs.Ran.{Passed, Outcome, outcome_done, Keeps, done_keeps, checked_ran, checked_keeps}

-- stored pages and stable records that are sound, and give sound pages
pub record RecoverableFacts (n : ℕ) (a g : List ℕ) (c : ℕ) : Type 0 where
  pub stored_sound : area_sound a n ≡ true
  pub log_sound_law : log_sound n g c ≡ true
  pub free_zero_law : all (free_zero (recovered a g c)) n ≡ true

pub recoverable_facts : (n : ℕ) (a g : List ℕ) (c : ℕ) → recoverable n a g c ≡ true → RecoverableFacts n a g c
unfolding recoverable
recoverable_facts n a g c h =
    let p = and_split _ _ h in
    let q = and_split _ _ p.0 in
    record { stored_sound = q.0; log_sound_law = q.1; free_zero_law = p.1 }

pub record ReopenFacts (s : Areas) : Type 0 where
  pub sized : Sized s (pages s)
  pub stable_le : stable_count s ≤ records s
  pub recovers : recoverable (pages s) s.stored s.log (stable_count s) ≡ true

pub reopen_facts : (s : Areas) → verdict (reopen_tests s) ≡ Ok tt → ReopenFacts s
unfolding reopen_tests
reopen_facts s h =
    let r = and_split (leb (stable_count s) (records s)) (recoverable (pages s) s.stored s.log (stable_count s)) (passed _ 1 h) in
    record { sized = sized s (pages s) (passed _ 0 h) refl; stable_le = leb-true _ _ r.0; recovers = r.1 }

pub reopen_ran : (s : Areas) → accepted (call_reopen s).answer ≡ true → Passed (verdict (reopen_tests s)) (call_reopen s) (done 0 (reopened s))
unfolding call_reopen
reopen_ran s h = checked_ran (verdict (reopen_tests s)) s (done 0 (reopened s)) h

pub reopen_keeps : (s : Areas) → Keeps s (call_reopen s)
unfolding call_reopen
reopen_keeps s = checked_keeps (verdict (reopen_tests s)) s (done 0 (reopened s)) (done_keeps s 0 (reopened s))

pub record RestepFacts (s : Areas) : Type 0 where
  pub running : reopening s ≡ running

pub restep_facts : (s : Areas) → verdict (restep_tests s) ≡ Ok tt → RestepFacts s
unfolding restep_tests
restep_facts s h = record { running = eqb-true _ _ (passed _ 0 h) }

-- the areas after a step: of the next page, or of the log
abbrev pub restepped : Areas → ℕ → Areas
restepped s n = let p = at s.work reopening_page_at in if (ltb p n) (page_stored s p) (reopening_over s n)

pub restep_outcome : (s : Areas) →
    Outcome false true s (λ n. restep_tests s) (call_restep s) (λ n. done (at s.work reopening_page_at) (restepped s n))
unfolding call_restep
restep_outcome s = outcome_done _ _ _ _ (λ n. at s.work reopening_page_at) (restepped s)
