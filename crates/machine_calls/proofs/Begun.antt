-- The working tables after a begin, as the collector machine's: n is the number of pages. Assumes nothing.
use Prim.Native.Nat.{ℕ, ◌<◌, ◌≤◌}
use native.Mathlib.Omega.{arith}
use mathlib.Core.Path.{◌≡◌, refl, ap, ◌∙◌, fun_ext}
use mathlib.Core.Bool.{Bool, true, false, not, cond}
use mathlib.Core.List.{List}
use mathlib.Core.Logic.{inl, inr}
use lib.ListN.{length}
use lib.Seq.{get_or-set_same, get_or-set_other}
use lib.Dec.{eqb}
use Rattle.words.specs.Bits.{without_bit, bit_without}
use Rattle.pages.specs.Geometry.{root, object_count}
use Rattle.areas.specs.Layout.{active_at, known_at, pruned_at, table_words, client_at, rights_from}
use Rattle.areas.specs.Tables.{at, gain}
use Rattle.calls.specs.Transactions.{leaves, knows_root, begun_tables}
use Rattle.collector.specs.Bits.{◌and◌, ◌or◌, or_false}
use Rattle.collector.specs.State.{add, drop}
use Rattle.machine_calls.specs.Tables.{object_bit, locks_of, tables_of, pass_of}
use Rattle.machine_calls.proofs.Frames.{Beside, beside_self, beside_set, beside_gain, beside_over, wider, later, locks_ext, tables_ext, page_kept, object_kept, flag_kept, locks_kept, tables_kept, pass_kept}
use Rattle.machine_calls.proofs.Masks.{object_gain, object_drop, over_object, active_gain}
use Rattle.records.specs.Records.{txn_count}

-- t's entries go and one comes: that entry is all that t has
only : (txn same old : Bool) → ((not txn and old) or (txn and same)) ≡ cond txn same old
unfolding ◌and◌ ◌or◌
only true same old = refl
only false true old = or_false old
only false false old = or_false old

module _ (w : List ℕ) (n t : ℕ) where
  -- the tables with t active, and with nothing known to it
  abbrev active : List ℕ
  active = gain w active_at t

  abbrev unknowing : List ℕ
  unknowing = leaves t active (known_at n 1) (object_count n)

  knowing : Beside (known_at n 1) (pruned_at n 1) active unknowing
  knowing = wider (beside_over _ active (known_at n 1) (object_count n)) (omega arith) (omega arith)

  module _ (some : 1 ≤ n) where
    behind : Beside (known_at n 1) (pruned_at n 1) active (knows_root active n t)
    behind = later knowing (wider (beside_gain unknowing (known_at n root) t) (omega arith) (omega arith))

    rooted : Beside active_at (pruned_at n 1) w (knows_root active n t)
    rooted = later (wider (beside_gain w active_at t) (omega arith) (omega arith)) (wider behind (omega arith) (omega arith))

    module _ (c : ℕ) (small : t < txn_count) where
      -- t's client
      client : Beside (client_at n t) (rights_from n) (knows_root active n t) (begun_tables w n t c)
      unfolding begun_tables
      client = wider (beside_set (knows_root active n t) (client_at n t) c) (omega arith) (omega arith)

      pub begin_beside : Beside active_at (rights_from n) w (begun_tables w n t c)
      begin_beside = later (wider rooted (omega arith) (omega arith)) (wider client (omega arith) (omega arith))

      -- words between the tables and its client, and those behind the clients, stay
      pub begin_behind : (j : ℕ) → table_words n ≤ j → (j ≡ client_at n t → ⊥) → at (begun_tables w n t c) j ≡ at w j
      unfolding begun_tables
      begin_behind j l k = get_or-set_other (knows_root active n t) (client_at n t) j c 0 k ∙ rooted.above j (omega arith)

      pub begin_client : rights_from n ≤ length w → at (begun_tables w n t c) (client_at n t) ≡ c
      unfolding begun_tables
      begin_client len = get_or-set_same (knows_root active n t) (client_at n t) c 0 (let e = rooted.same_length in omega arith)

      pub begin_pass : pass_of (begun_tables w n t c) n ≡ pass_of w n
      begin_pass = pass_kept client n (inr (omega arith)) (inr (omega arith)) ∙ pass_kept rooted n (inr (omega arith)) (inl (omega arith))

      module _ (len : table_words n ≤ length w) where
        pub begin_locks : locks_of (begun_tables w n t c) n ≡ record { act = λ u. (locks_of w n).act u or eqb u t; rd = (locks_of w n).rd; wr = (locks_of w n).wr }
        begin_locks = locks_kept client n (inr (omega arith)) ∙ locks_kept behind n (inr (omega arith)) ∙ locks_ext _ _ (active_gain w active_at t (omega arith) small)
            (page_kept (beside_gain w active_at t) n _ (inl (omega arith)))
            (page_kept (beside_gain w active_at t) n _ (inl (omega arith)))

        forgotten : object_bit unknowing n (known_at n) ≡ drop (object_bit w n (known_at n)) t
        forgotten = object_drop w n _ t unknowing (λ m. without_bit m t) (λ m u l. bit_without m t u)
            (over_object (λ m. without_bit m t) n (beside_gain w active_at t) (omega arith) (beside_self (pruned_at n 1) 0 unknowing) (omega arith) (omega arith))

        pub begin_tables : tables_of (begun_tables w n t c) n ≡ record {
          kn = λ u x. cond (eqb u t) (eqb x 1) ((tables_of w n).kn u x);
          prt = (tables_of w n).prt;
          cot = (tables_of w n).cot;
          cot_f = (tables_of w n).cot_f;
          dirty = (tables_of w n).dirty;
        }
        begin_tables = tables_kept client n (inr (omega arith)) ∙ tables_ext _ _
            (object_gain unknowing n _ t root (omega arith) (omega arith) (let e = knowing.same_length in let d = (beside_gain w active_at t).same_length in omega arith) small
            ∙ ap (λ (b : ℕ → ℕ → Bool). add b t root) forgotten ∙ fun_ext (λ u. fun_ext (λ x. only (eqb u t) (eqb x 1) (object_bit w n (known_at n) u x))))
            (object_kept rooted n _ (inl (omega arith)))
            (object_kept rooted n _ (inl (omega arith)))
            (flag_kept rooted n _ (inl (omega arith)))
            (page_kept behind n _ (inr (omega arith)) ∙ page_kept (beside_gain w active_at t) n _ (inl (omega arith)))
