-- Document 01, 'Calls': what an accepted begin, commit and abort know. n is the number of pages. Assumes nothing.
use Rattle.std.specs.Prelude.{ℕ, ◌+◌, ◌<◌, ◌≤◌, ◌≡◌, true, false, not, List, length, Ok}
use Rattle.std.proofs.Common.{ltb-true, leb-true}
use Rattle.std.proofs.lemmas.Bool.{not-true}
use Rattle.words.specs.Tests.{all_at, and_split}
use Rattle.records.specs.Records.{txn_count}
use Rattle.calls.specs.Room.{change_room}
use Rattle.areas.specs.Answers.{verdict, passed}
use Rattle.areas.specs.Areas.{Areas, done, received_count}
use Rattle.areas.specs.Layout.{unflushed_at, client_count}
use Rattle.areas.specs.Tables.{has, is_txn, is_active}
use Rattle.areas.specs.Entry.{records}
use Rattle.calls.specs.Rights.{is_client}
use Rattle.calls.specs.Transactions.{all_flushed, changes_of, begin_tests, begun, call_begin, commit_tests, committed, call_commit, abort_tests, aborted, call_abort}
use Rattle.acceptance.specs.Room.{Room, room_facts}
use Rattle.acceptance.specs.Ran.{Outcome, outcome_done}

pub record BeginFacts (s : Areas) (n t c : ℕ) : Type 0 where
  pub txn : t < txn_count
  pub client : c < client_count
  pub inactive : is_active s.work t ≡ false
  pub room : Room s n change_room

pub begin_facts : (s : Areas) (n t c : ℕ) → verdict (begin_tests s n t c) ≡ Ok tt → BeginFacts s n t c
unfolding begin_tests
begin_facts s n t c h =
    let a = and_split (is_txn t) (is_client c) (passed _ 0 h) in
    record { txn = ltb-true _ _ a.0; client = ltb-true _ _ a.1; inactive = not-true _ (passed _ 1 h); room = room_facts s n change_room (passed _ 2 h) }

pub begin_outcome : (s : Areas) (t c : ℕ) →
    Outcome true true s (λ n. begin_tests s n t c) (call_begin s t c) (λ n. done (received_count (begun s n t c)) (begun s n t c))
unfolding call_begin
begin_outcome s t c = outcome_done _ _ _ _ _ _

pub record CommitFacts (s : Areas) (n t : ℕ) : Type 0 where
  pub txn : t < txn_count
  pub active : is_active s.work t ≡ true
  pub flushed : (p : ℕ) → p < n → has s.work (unflushed_at n p) t ≡ false
  pub room : received_count s + 1 ≤ records s

pub all_flushed_law : (w : List ℕ) (n t p : ℕ) → all_flushed w n t ≡ true → p < n → has w (unflushed_at n p) t ≡ false
unfolding all_flushed
all_flushed_law w n t p h l = not-true _ (all_at (λ q. not (has w (unflushed_at n q) t)) n p h l)

pub commit_facts : (s : Areas) (n t : ℕ) → verdict (commit_tests s n t) ≡ Ok tt → CommitFacts s n t
unfolding commit_tests
commit_facts s n t h =
    record { txn = ltb-true _ _ (passed _ 0 h); active = passed _ 1 h; flushed = λ p. all_flushed_law s.work n t p (passed _ 2 h); room = leb-true _ _ (passed _ 3 h) }

pub commit_outcome : (s : Areas) (t : ℕ) →
    Outcome true true s (λ n. commit_tests s n t) (call_commit s t) (λ n. done (received_count (committed s n t)) (committed s n t))
unfolding call_commit
commit_outcome s t = outcome_done _ _ _ _ _ _

pub record AbortFacts (s : Areas) (n t : ℕ) : Type 0 where
  pub txn : t < txn_count
  pub active : is_active s.work t ≡ true
  pub room : received_count s + (length (changes_of s n t) + 1) ≤ records s

pub abort_facts : (s : Areas) (n t : ℕ) → verdict (abort_tests s n t) ≡ Ok tt → AbortFacts s n t
unfolding abort_tests
abort_facts s n t h =
    record { txn = ltb-true _ _ (passed _ 0 h); active = passed _ 1 h; room = leb-true _ _ (passed _ 2 h) }

pub abort_outcome : (s : Areas) (t : ℕ) →
    Outcome true true s (λ n. abort_tests s n t) (call_abort s t) (λ n. done (received_count (aborted s n t)) (aborted s n t))
unfolding call_abort
abort_outcome s t = outcome_done _ _ _ _ _ _
