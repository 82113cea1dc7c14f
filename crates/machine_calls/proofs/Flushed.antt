-- The working tables after a flush, as the collector machine's: n is the number of pages. Assumes nothing.
use Prim.Native.Nat.{ℕ, ◌<◌, ◌≤◌}
use native.Mathlib.Omega.{arith}
use mathlib.Core.Path.{◌≡◌}
use mathlib.Core.List.{List}
use mathlib.Core.Logic.{inl, inr}
use lib.ListN.{length}
use Rattle.areas.specs.Layout.{unflushed_at, known_at, table_words}
use Rattle.areas.specs.Tables.{lose}
use Rattle.collector.specs.State.{remove}
use Rattle.machine_calls.specs.Tables.{locks_of, tables_of, pass_of}
use Rattle.machine_calls.proofs.Frames.{Beside, beside_lose, wider, tables_ext, object_kept, flag_kept, locks_kept, pass_kept}
use Rattle.machine_calls.proofs.Masks.{page_lose}

module _ (w : List ℕ) (n t p : ℕ) (h : p < n) where
  pub flush_beside : Beside (unflushed_at n 0) (known_at n 1) w (lose w (unflushed_at n p) t)
  flush_beside = wider (beside_lose w (unflushed_at n p) t) (omega arith) (omega arith)

  pub flush_locks : locks_of (lose w (unflushed_at n p) t) n ≡ locks_of w n
  flush_locks = locks_kept flush_beside n (inr (omega arith))

  pub flush_pass : pass_of (lose w (unflushed_at n p) t) n ≡ pass_of w n
  flush_pass = pass_kept flush_beside n (inr (omega arith)) (inl (omega arith))

  pub flush_tables : table_words n ≤ length w → tables_of (lose w (unflushed_at n p) t) n ≡ record {
    kn = (tables_of w n).kn;
    prt = (tables_of w n).prt;
    cot = (tables_of w n).cot;
    cot_f = (tables_of w n).cot_f;
    dirty = remove (tables_of w n).dirty t p;
  }
  flush_tables len = tables_ext _ _ (object_kept flush_beside n _ (inl (omega arith)))
      (object_kept flush_beside n _ (inl (omega arith)))
      (object_kept flush_beside n _ (inl (omega arith)))
      (flag_kept flush_beside n _ (inl (omega arith)))
      (page_lose w n _ t p h (omega arith))
