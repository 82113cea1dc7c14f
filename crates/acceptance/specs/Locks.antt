-- Document 01, 'Calls': what an accepted lock for reading or writing knows; document 02, L9: its right. n is the number of pages. Assumes nothing.
use Rattle.std.specs.Prelude.{ℕ, ◌<◌, ◌≡◌, true, Ok}
use Rattle.std.proofs.Common.{ltb-true, eqb-true}
use Rattle.words.specs.Tests.{and_split}
use Rattle.words.specs.Bits.{without_bit}
use Rattle.records.specs.Records.{txn_count}
use Rattle.areas.specs.Answers.{verdict, passed}
use Rattle.areas.specs.Areas.{Areas, done, with_work}
use Rattle.areas.specs.Layout.{readers_at, writers_at, reading, writing}
use Rattle.areas.specs.Tables.{at, is_active}
use Rattle.calls.specs.Rights.{may_lock}
use Rattle.calls.specs.Locks.{lock_read_tests, read_locked, call_lock_read, lock_write_tests, write_locked, call_lock_write}
use Rattle.acceptance.specs.Ran.{Outcome, outcome_done}

-- nobody but t writes the page
pub record LockReadFacts (s : Areas) (n t p : ℕ) : Type 0 where
  pub txn : t < txn_count
  pub page : p < n
  pub active : is_active s.work t ≡ true
  pub right : may_lock s.work n t p reading ≡ true
  pub no_writer_law : without_bit (at s.work (writers_at n p)) t ≡ 0

pub lock_read_facts : (s : Areas) (n t p : ℕ) → verdict (lock_read_tests s n t p) ≡ Ok tt → LockReadFacts s n t p
unfolding lock_read_tests
lock_read_facts s n t p h =
    let r = and_split _ _ (passed _ 0 h) in
    record { txn = ltb-true _ _ r.0; page = ltb-true _ _ r.1; active = passed _ 1 h; right = passed _ 2 h; no_writer_law = eqb-true _ _ (passed _ 3 h) }

pub lock_read_outcome : (s : Areas) (t p : ℕ) →
    Outcome true true s (λ n. lock_read_tests s n t p) (call_lock_read s t p) (λ n. done 0 (with_work s (read_locked s.work n t p)))
unfolding call_lock_read
lock_read_outcome s t p = outcome_done _ _ _ _ (λ n. 0) (λ n. with_work s (read_locked s.work n t p))

-- nobody but t reads or writes it
pub record LockWriteFacts (s : Areas) (n t p : ℕ) : Type 0 where
  pub txn : t < txn_count
  pub page : p < n
  pub active : is_active s.work t ≡ true
  pub right : may_lock s.work n t p writing ≡ true
  pub no_reader_law : without_bit (at s.work (readers_at n p)) t ≡ 0
  pub no_writer_law : without_bit (at s.work (writers_at n p)) t ≡ 0

pub lock_write_facts : (s : Areas) (n t p : ℕ) → verdict (lock_write_tests s n t p) ≡ Ok tt → LockWriteFacts s n t p
unfolding lock_write_tests
lock_write_facts s n t p h =
    let r = and_split _ _ (passed _ 0 h) in
    let o = and_split _ _ (passed _ 3 h) in
    record {
      txn = ltb-true _ _ r.0;
      page = ltb-true _ _ r.1;
      active = passed _ 1 h;
      right = passed _ 2 h;
      no_reader_law = eqb-true _ _ o.0;
      no_writer_law = eqb-true _ _ o.1;
    }

pub lock_write_outcome : (s : Areas) (t p : ℕ) →
    Outcome true true s (λ n. lock_write_tests s n t p) (call_lock_write s t p) (λ n. done 0 (with_work s (write_locked s.work n t p)))
unfolding call_lock_write
lock_write_outcome s t p = outcome_done _ _ _ _ (λ n. 0) (λ n. with_work s (write_locked s.work n t p))
