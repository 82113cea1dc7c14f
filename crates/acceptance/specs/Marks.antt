-- Document 02, L3: what an accepted mark and an accepted going back know. n is the number of pages. Assumes nothing.
use Rattle.std.specs.Prelude.{ℕ, ◌+◌, ◌<◌, ◌≤◌, ◌≡◌, true, length, Ok}
use Rattle.std.proofs.Common.{ltb-true, leb-true}
use Rattle.std.proofs.lemmas.Bool.{eqb-false, not-true}
use Rattle.words.specs.Tests.{and_split}
use Rattle.records.specs.Records.{txn_count}
use Rattle.areas.specs.Answers.{verdict, passed}
use Rattle.areas.specs.Areas.{Areas, done, received_count}
use Rattle.areas.specs.Layout.{mark_count}
use Rattle.areas.specs.Tables.{is_txn, is_active}
use Rattle.areas.specs.Entry.{records}
use Rattle.calls.specs.Marks.{is_mark, order_of, mark_tests, mark_set, call_mark, since_mark, back_tests, back_to, call_back}
use Rattle.acceptance.specs.Ran.{Outcome, outcome_done}

pub record MarkFacts (s : Areas) (t m : ℕ) : Type 0 where
  pub txn : t < txn_count
  pub mark : m < mark_count
  pub active : is_active s.work t ≡ true

pub mark_facts : (s : Areas) (t m : ℕ) → verdict (mark_tests s t m) ≡ Ok tt → MarkFacts s t m
unfolding mark_tests
mark_facts s t m h =
    let p = and_split (is_txn t) (is_mark m) (passed _ 0 h) in
    record { txn = ltb-true _ _ p.0; mark = ltb-true _ _ p.1; active = passed _ 1 h }

pub mark_outcome : (s : Areas) (t m : ℕ) → Outcome true true s (λ n. mark_tests s t m) (call_mark s t m) (λ n. done 0 (mark_set s n t m))
unfolding call_mark
mark_outcome s t m = outcome_done _ _ _ _ (λ n. 0) (λ n. mark_set s n t m)

pub record BackFacts (s : Areas) (n t m : ℕ) : Type 0 where
  pub txn : t < txn_count
  pub mark : m < mark_count
  pub active : is_active s.work t ≡ true
  pub marked : order_of s.work n t m ≡ 0 → ⊥
  pub room : received_count s + length (since_mark s n t m) ≤ records s

pub back_facts : (s : Areas) (n t m : ℕ) → verdict (back_tests s n t m) ≡ Ok tt → BackFacts s n t m
unfolding back_tests
back_facts s n t m h =
    let p = and_split (is_txn t) (is_mark m) (passed _ 0 h) in
    record {
      txn = ltb-true _ _ p.0;
      mark = ltb-true _ _ p.1;
      active = passed _ 1 h;
      marked = eqb-false _ _ (not-true _ (passed _ 2 h));
      room = leb-true _ _ (passed _ 3 h);
    }

pub back_outcome : (s : Areas) (t m : ℕ) → Outcome true true s (λ n. back_tests s n t m) (call_back s t m) (λ n. done 0 (back_to s n t m))
unfolding call_back
back_outcome s t m = outcome_done _ _ _ _ (λ n. 0) (λ n. back_to s n t m)
