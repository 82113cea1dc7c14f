-- The working tables after a lock, as the collector machine's: n is the number of pages. Assumes nothing.
use Prim.Native.Nat.{ℕ, ◌<◌, ◌≤◌}
use native.Mathlib.Omega.{arith}
use mathlib.Core.Path.{◌≡◌, refl, sym, ap, ◌∙◌, fun_ext}
use mathlib.Core.Bool.{Bool, true, false, not}
use mathlib.Core.List.{List}
use mathlib.Core.Logic.{inl, inr}
use lib.ListN.{length, length-set}
use lib.Dec.{eqb}
use borrow.Author.Tests.{eqb-true}
use Rattle.words.specs.Tests.{by_bool}
use Rattle.words.specs.Bits.{without_bit}
use Rattle.areas.specs.Layout.{readers_at, writers_at, unflushed_at, table_words}
use Rattle.areas.specs.Tables.{at, lose, can_write}
use Rattle.calls.specs.Locks.{read_locked, write_locked}
use Rattle.collector.specs.Bits.{◌and◌, ◌or◌, or_false}
use Rattle.collector.specs.State.{add, remove}
use Rattle.machine_calls.specs.Tables.{page_bit, locks_of, tables_of, pass_of}
use Rattle.machine_calls.proofs.Frames.{Beside, beside_self, beside_gain, beside_lose, wider, later, locks_ext, page_bit_law, page_kept, active_kept, tables_kept, pass_kept}
use Rattle.machine_calls.proofs.Masks.{page_gain, page_lose}
use Rattle.records.specs.Records.{txn_count}

-- the page is the one asked for, and t writes it or not
held : (reads txn page writes : Bool) → (txn ≡ true → page ≡ true → writes ≡ true) → reads ≡ (reads or (txn and page and not writes))
unfolding ◌and◌
held reads true true writes h = rw (h refl refl) (sym (or_false reads))
held reads true false writes h = sym (or_false reads)
held reads false page writes h = sym (or_false reads)

free : (reads txn page writes : Bool) → (txn ≡ true → page ≡ true → writes ≡ false) → (reads or (txn and page)) ≡ (reads or (txn and page and not writes))
unfolding ◌and◌
free reads true true writes h = rw (h refl refl)
free reads true false writes h = refl
free reads false page writes h = refl

module _ (w : List ℕ) (n t p : ℕ) (h : p < n) where
  pub lock_write_beside : Beside (readers_at n 0) (unflushed_at n 0) w (write_locked w n t p)
  unfolding write_locked
  lock_write_beside = later (wider (beside_lose w (readers_at n p) t) (omega arith) (omega arith)) (wider (beside_gain _ (writers_at n p) t) (omega arith) (omega arith))

  pub lock_read_beside : Beside (readers_at n 0) (unflushed_at n 0) w (read_locked w n t p)
  unfolding read_locked
  lock_read_beside = by_bool (can_write w n t p)
      (λ e. rw e (beside_self _ _ w))
      (λ e. rw e (wider (beside_gain w (readers_at n p) t) (omega arith) (omega arith)))

  pub lock_write_tables : tables_of (write_locked w n t p) n ≡ tables_of w n
  lock_write_tables = tables_kept lock_write_beside n (inl (omega arith))

  pub lock_read_tables : tables_of (read_locked w n t p) n ≡ tables_of w n
  lock_read_tables = tables_kept lock_read_beside n (inl (omega arith))

  pub lock_write_pass : pass_of (write_locked w n t p) n ≡ pass_of w n
  lock_write_pass = pass_kept lock_write_beside n (inr (omega arith)) (inl (omega arith))

  pub lock_read_pass : pass_of (read_locked w n t p) n ≡ pass_of w n
  lock_read_pass = pass_kept lock_read_beside n (inr (omega arith)) (inl (omega arith))

  module _ (len : table_words n ≤ length w) (small : t < txn_count) where
    pub lock_write_locks : locks_of (write_locked w n t p) n ≡ record { act = (locks_of w n).act; rd = remove (locks_of w n).rd t p; wr = add (locks_of w n).wr t p }
    unfolding write_locked
    lock_write_locks = locks_ext _ _ (active_kept lock_write_beside n (inr (omega arith)))
        (page_kept (beside_gain v (writers_at n p) t) n _ (inr (omega arith)) ∙ page_lose w n _ t p h (omega arith))
        (page_gain v n _ t p h (let e = length-set w (readers_at n p) (without_bit (at w (readers_at n p)) t) in omega arith) small
        ∙ ap (λ (b : ℕ → ℕ → Bool). add b t p) (page_kept (beside_lose w (readers_at n p) t) n _ (inl (omega arith))))
      where
        v : List ℕ
        v = lose w (readers_at n p) t

    writer : (u q : ℕ) → eqb u t ≡ true → eqb q p ≡ true → page_bit w n (writers_at n) u q ≡ can_write w n t p
    writer u q a b = rw (eqb-true u t a, eqb-true q p b) (page_bit_law w n (writers_at n) t p small h)

    pub lock_read_locks : locks_of (read_locked w n t p) n
        ≡ record { act = (locks_of w n).act; rd = λ u q. (locks_of w n).rd u q or (eqb u t and eqb q p and not ((locks_of w n).wr u q)); wr = (locks_of w n).wr }
    unfolding read_locked
    lock_read_locks = by_bool (can_write w n t p)
        (λ e. rw e (locks_ext _ _ (λ u. refl) (fun_ext (λ u. fun_ext (λ q. held _ _ _ _ (λ a b. writer u q a b ∙ e)))) refl))
        (λ e. rw e (locks_ext _ _ (active_kept (beside_gain w (readers_at n p) t) n (inr (omega arith)))
        (page_gain w n _ t p h (omega arith) small ∙ fun_ext (λ u. fun_ext (λ q. free _ _ _ _ (λ a b. writer u q a b ∙ e))))
        (page_kept (beside_gain w (readers_at n p) t) n _ (inl (omega arith)))))
