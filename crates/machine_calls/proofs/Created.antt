-- The working tables after a create, as the collector machine's: n is the number of pages. Assumes nothing.
use Prim.Native.Nat.{ℕ, ◌<◌, ◌≤◌}
use native.Mathlib.Omega.{arith}
use mathlib.Core.Path.{◌≡◌, ap, ◌∙◌}
use mathlib.Core.Bool.{Bool}
use mathlib.Core.List.{List}
use mathlib.Core.Logic.{inl, inr}
use lib.ListN.{length}
use Rattle.pages.specs.Geometry.{page_of, object_count}
use Rattle.areas.specs.Layout.{unflushed_at, known_at, created_at, colour_at, table_words}
use Rattle.areas.specs.Tables.{gain}
use Rattle.collector.specs.Objects as Objects
use Rattle.collector.specs.State.{add}
use Rattle.machine_calls.specs.Tables.{locks_of, tables_of, pass_of}
use Rattle.machine_calls.proofs.Frames.{Beside, beside_gain, wider, later, tables_ext, page_kept, object_kept, flag_kept, locks_kept, pass_kept}
use Rattle.machine_calls.proofs.Masks.{page_gain, object_gain, flag_gain}
use Rattle.records.specs.Records.{txn_count}

-- 't knows it and the COT gains it for t'
abbrev pub makes : List ℕ → ℕ → ℕ → ℕ → List ℕ
makes w n t o = gain (gain (gain w (unflushed_at n (page_of o)) t) (known_at n o) t) (created_at n o) t

module _ (w : List ℕ) (n t o : ℕ) (low : 1 ≤ o) (top : o ≤ object_count n) where
  abbrev w1 : List ℕ
  w1 = gain w (unflushed_at n (page_of o)) t

  abbrev w2 : List ℕ
  w2 = gain w1 (known_at n o) t

  unflushed : Beside (unflushed_at n 0) (known_at n 1) w w1
  unflushed = wider (beside_gain w (unflushed_at n (page_of o)) t) (omega arith) (omega arith)

  known : Beside (unflushed_at n 0) (created_at n 1) w w2
  known = later (wider unflushed (omega arith) (omega arith)) (wider (beside_gain w1 (known_at n o) t) (omega arith) (omega arith))

  pub create_beside : Beside (unflushed_at n 0) (colour_at n 1) w (makes w n t o)
  create_beside = later (wider known (omega arith) (omega arith)) (wider (beside_gain w2 (created_at n o) t) (omega arith) (omega arith))

  pub create_locks : locks_of (makes w n t o) n ≡ locks_of w n
  create_locks = locks_kept create_beside n (inr (omega arith))

  pub create_pass : pass_of (makes w n t o) n ≡ pass_of w n
  create_pass = pass_kept create_beside n (inr (omega arith)) (inl (omega arith))

  pub create_tables : table_words n ≤ length w → t < txn_count → tables_of (makes w n t o) n ≡ record {
    kn = add (tables_of w n).kn t o;
    prt = (tables_of w n).prt;
    cot = add (tables_of w n).cot t o;
    cot_f = (tables_of w n).cot_f;
    dirty = add (tables_of w n).dirty t (Objects.page_of o);
  }
  unfolding Objects.page_of
  create_tables len small =
      let k = known.same_length in
      let u = unflushed.same_length in
      tables_ext _ _
      (object_kept (beside_gain w2 (created_at n o) t) n _ (inr (omega arith)) ∙ object_gain w1 n _ t o low top (omega arith) small
      ∙ ap (λ (b : ℕ → ℕ → Bool). add b t o) (object_kept unflushed n _ (inl (omega arith))))
      (object_kept (beside_gain w2 (created_at n o) t) n _ (inr (omega arith)) ∙ object_kept (beside_gain w1 (known_at n o) t) n _ (inl (omega arith))
      ∙ object_kept unflushed n _ (inl (omega arith)))
      (object_gain w2 n _ t o low top (omega arith) small ∙ ap (λ (b : ℕ → ℕ → Bool). add b t o) (object_kept known n _ (inl (omega arith))))
      (flag_gain w2 n (created_at n o) t _ (omega arith) small ∙ flag_kept known n _ (inl (omega arith)))
      (page_kept (beside_gain w2 (created_at n o) t) n _ (inr (omega arith)) ∙ page_kept (beside_gain w1 (known_at n o) t) n _ (inr (omega arith))
      ∙ page_gain w n _ t (page_of o) (omega arith) (omega arith) small)
