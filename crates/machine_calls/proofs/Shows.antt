-- A state of the collector machine that shows the working tables, and each call: the machine's next state shows the next tables. n is the
-- number of pages. Assumes nothing.
use Prim.Native.Nat.{ℕ, ◌<◌, ◌≤◌}
use mathlib.Core.Path.{◌≡◌, sym, ◌∙◌}
use mathlib.Core.Bool.{true, not}
use mathlib.Core.List.{List}
use lib.ListN.{length}
use Rattle.pages.specs.Soundness.{area_sound}
use Rattle.areas.specs.Layout.{unflushed_at, table_words}
use Rattle.areas.specs.Tables.{lose}
use Rattle.calls.specs.Transactions.{begun_tables, ended_tables}
use Rattle.calls.specs.Locks.{read_locked, write_locked}
use Rattle.calls.specs.Objects.{learned}
use Rattle.calls.specs.Marks.{taken_back}
use Rattle.collector.specs.State.{St}
use Rattle.collector.specs.Calls as Calls
use Rattle.collector.specs.Undo.{Item, popped}
use Rattle.machine_view.specs.View.{view}
use Rattle.machine_calls.specs.Tables.{locks_of, tables_of, pass_of}
use Rattle.machine_calls.proofs.Begun.{begin_locks, begin_tables, begin_pass}
use Rattle.machine_calls.proofs.Ended.{ended_locks, ended_tables_law, ended_pass}
use Rattle.machine_calls.proofs.Locking.{lock_read_locks, lock_read_tables, lock_read_pass, lock_write_locks, lock_write_tables, lock_write_pass}
use Rattle.machine_calls.proofs.Learned.{read_locks, read_tables, read_pass}
use Rattle.machine_calls.proofs.Created.{makes, create_locks, create_tables, create_pass}
use Rattle.machine_calls.proofs.Written.{writes, set_locks, set_tables, set_pass}
use Rattle.machine_calls.proofs.TakenBack.{back_locks, back_tables, back_pass}
use Rattle.machine_calls.proofs.Flushed.{flush_locks, flush_tables, flush_pass}
use Rattle.pages.specs.Geometry.{object_count, slot_words}
use Rattle.records.specs.declared.Record.{Record}
use Rattle.records.specs.Records.{txn_count, is_create}

pub record Shows (w : List ℕ) (n : ℕ) (s : St) : Type 0 where
  pub count : s.count ≡ n
  pub locks : s.locks ≡ locks_of w n
  pub tables : s.tables ≡ tables_of w n
  pub pass : s.pass ≡ pass_of w n

module _ (w : List ℕ) (n : ℕ) (len : table_words n ≤ length w) (s : St) (e : Shows w n s) where
  pub begin_shows : 1 ≤ n → (t c m : ℕ) → t < txn_count → Shows (begun_tables w n t c) n (Calls.begun s t m)
  begin_shows some t c m small = record {
    count = e.count;
    locks = rw e.locks (sym (begin_locks w n t some c small len));
    tables = rw e.tables (sym (begin_tables w n t some c small len));
    pass = e.pass ∙ sym (begin_pass w n t some c small);
  }

  pub commit_shows : (t m : ℕ) → t < txn_count → Shows (ended_tables w n t) n (Calls.committed s t m)
  commit_shows t m small = record {
    count = e.count;
    locks = rw e.locks (sym (ended_locks w n t len));
    tables = rw (e.tables, e.pass) (sym (ended_tables_law w n t len small));
    pass = e.pass ∙ sym (ended_pass w n t);
  }

  pub abort_shows : (t m : ℕ) → t < txn_count → Shows (ended_tables w n t) n (Calls.aborted s t m)
  abort_shows t m small = let c = commit_shows t m small in record { count = c.count; locks = c.locks; tables = c.tables; pass = c.pass }

  pub lock_read_shows : (t p : ℕ) → t < txn_count → p < n → Shows (read_locked w n t p) n (Calls.read_locked s t p)
  lock_read_shows t p small h = record {
    count = e.count;
    locks = rw e.locks (sym (lock_read_locks w n t p h len small));
    tables = e.tables ∙ sym (lock_read_tables w n t p h);
    pass = e.pass ∙ sym (lock_read_pass w n t p h);
  }

  pub lock_write_shows : (t p : ℕ) → t < txn_count → p < n → Shows (write_locked w n t p) n (Calls.write_locked s t p)
  lock_write_shows t p small h = record {
    count = e.count;
    locks = rw e.locks (sym (lock_write_locks w n t p h len small));
    tables = e.tables ∙ sym (lock_write_tables w n t p h);
    pass = e.pass ∙ sym (lock_write_pass w n t p h);
  }

  pub flush_shows : (t p : ℕ) → p < n → Shows (lose w (unflushed_at n p) t) n (Calls.flushed s t p)
  flush_shows t p h = record {
    count = e.count;
    locks = e.locks ∙ sym (flush_locks w n t p h);
    tables = rw e.tables (sym (flush_tables w n t p h len));
    pass = e.pass ∙ sym (flush_pass w n t p h);
  }

  -- the parts of a state where a change is taken back
  pub back_shows : (t c : ℕ) (r : Record) → t < txn_count → 1 ≤ r.object → r.object ≤ object_count n → (p : Item) → p.o ≡ r.object → p.was.occ ≡ not (is_create r)
      → (m : ℕ) → Shows (taken_back w n t c r) n (Calls.dated (popped s t p) m)
  back_shows t c r small low top p o occ m = record {
    count = e.count;
    locks = e.locks ∙ sym (back_locks w n t c r low top);
    tables = rw (e.tables, occ, o) (sym (back_tables w n t c r low top len small));
    pass = e.pass ∙ sym (back_pass w n t c r low top);
  }

  module _ (t o : ℕ) (small : t < txn_count) (low : 1 ≤ o) (top : o ≤ object_count n) where
    pub create_shows : (m : ℕ) → Shows (makes w n t o) n (Calls.created s t o m)
    create_shows m = record {
      count = e.count;
      locks = e.locks ∙ sym (create_locks w n t o low top);
      tables = rw e.tables (sym (create_tables w n t o low top len small));
      pass = e.pass ∙ sym (create_pass w n t o low top);
    }

    module _ (a : List ℕ) (sound : area_sound a n ≡ true) (seen : s.pages.rec o ≡ view a o) where
      pub read_shows : Shows (learned a w n t o 8) n (Calls.read_by s t o)
      read_shows = record {
        count = e.count;
        locks = e.locks ∙ sym (read_locks a w n t o sound low top);
        tables = rw (e.tables, seen) (sym (read_tables a w n t o sound low top len small));
        pass = e.pass ∙ sym (read_pass a w n t o sound low top);
      }

      pub set_shows : (f v m : ℕ) → f < slot_words → Shows (writes a w n t o f v) n (Calls.written s t o f v m)
      set_shows f v m h = record {
        count = e.count;
        locks = e.locks ∙ sym (set_locks a w n t o f v sound low top h);
        tables = rw (e.tables, seen) (sym (set_tables a w n t o f v sound low top h len small));
        pass = rw (e.pass, seen) (sym (set_pass a w n t o f v sound low top h len small));
      }
