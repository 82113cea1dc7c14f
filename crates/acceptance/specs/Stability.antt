-- Document 01, 'Calls': what an accepted force, store page and empty log know. n is the number of pages. Assumes nothing.
use Rattle.std.specs.Prelude.{ℕ, ◌+◌, ◌<◌, ◌≤◌, ◌≡◌, true, ◌&&◌, length, get_or, set, eqb, Ok}
use Rattle.std.proofs.Common.{ltb-true, leb-true, eqb-true}
use Rattle.words.specs.Tests.{and_split}
use Rattle.words.specs.Spans.{same}
use Rattle.pages.specs.Objects.{copied_page}
use Rattle.records.specs.Naming.{last_naming}
use Rattle.areas.specs.Answers.{verdict, passed}
use Rattle.areas.specs.Areas.{Areas, done, received_count, stable_count, with_stored, with_counts}
use Rattle.areas.specs.Layout.{active_at}
use Rattle.areas.specs.Tables.{at}
use Rattle.calls.specs.Stability.{force_tests, call_force, store_tests, call_store, empty_tests, emptied, call_empty}
use Rattle.acceptance.specs.Ran.{Outcome, outcome_done}

pub record ForceFacts (s : Areas) : Type 0 where
  pub unstable : stable_count s < received_count s

pub force_facts : (s : Areas) → verdict (force_tests s) ≡ Ok tt → ForceFacts s
unfolding force_tests
force_facts s h = record { unstable = ltb-true _ _ (passed _ 0 h) }

pub force_outcome : (s : Areas) →
    Outcome true true s (λ n. force_tests s) (call_force s) (λ n. done (stable_count s + 1) (with_counts s (set s.counts 1 (stable_count s + 1))))
unfolding call_force
force_outcome s = outcome_done _ _ _ _ (λ n. stable_count s + 1) (λ n. with_counts s (set s.counts 1 (stable_count s + 1)))

pub record StoreFacts (s : Areas) (n p : ℕ) : Type 0 where
  pub page : p < n
  pub stable : get_or (last_naming s.log (received_count s)) p 0 ≤ stable_count s

pub store_facts : (s : Areas) (n p : ℕ) → verdict (store_tests s n p) ≡ Ok tt → StoreFacts s n p
unfolding store_tests
store_facts s n p h =
    record { page = ltb-true _ _ (passed _ 0 h); stable = leb-true _ _ (passed _ 1 h) }

pub store_outcome : (s : Areas) (p : ℕ) →
    Outcome true true s (λ n. store_tests s n p) (call_store s p) (λ n. done 0 (with_stored s (copied_page s.copies s.stored p)))
unfolding call_store
store_outcome s p = outcome_done _ _ _ _ (λ n. 0) (λ n. with_stored s (copied_page s.copies s.stored p))

pub record EmptyFacts (s : Areas) : Type 0 where
  pub none_active : at s.work active_at ≡ 0
  pub all_stable : stable_count s ≡ received_count s
  pub all_stored : same s.copies 0 s.stored 0 (length s.stored) ≡ true

pub empty_facts : (s : Areas) → verdict (empty_tests s) ≡ Ok tt → EmptyFacts s
unfolding empty_tests
empty_facts s h =
    let b = and_split (eqb (at s.work active_at) 0 && eqb (stable_count s) (received_count s)) (same s.copies 0 s.stored 0 (length s.stored)) (passed _ 0 h) in
    let a = and_split (eqb (at s.work active_at) 0) (eqb (stable_count s) (received_count s)) b.0 in
    record { none_active = eqb-true _ _ a.0; all_stable = eqb-true _ _ a.1; all_stored = b.1 }

pub empty_outcome : (s : Areas) → Outcome true true s (λ n. empty_tests s) (call_empty s) (λ n. done 0 (emptied s n))
unfolding call_empty
empty_outcome s = outcome_done _ _ _ _ (λ n. 0) (λ n. emptied s n)
