-- Refusals 3, 4, 19 and 6 of a lock for reading and of one for writing, as one check of the working tables. n is the number of pages.
-- Assumes nothing.
use Rattle.std.specs.Prelude.{ℕ, ◌<◌, ◌≡◌, refl, Bool, true, false, ◌&&◌, ◌||◌, List, [], ◌∷◌, eqb, ltb, Ok, Err, Option, None, Some}
use Rattle.std.proofs.Math.Path.{sym, ap}
use Rattle.std.proofs.Common.{◌∙◌, arith}
use Rattle.std.proofs.Math.Bool.{not}
use Rattle.std.specs.Int.Bits.{bit_or}
use Rattle.std.specs.Int.Count.{count_trailing_zeros}
use Rattle.words.specs.Tests.{if, if_t, if_f, lowest, and_true, and_comm}
use Rattle.words.specs.Bits.{bit, with_bit, without_bit, with_same, with_other}
use Rattle.words.specs.Lowest.{lowest_capped, lowest_same, trailing_lowest}
use Rattle.page_laws.specs.BitLaws.{or_others}
use Rattle.areas.specs.declared.Refusal.TheVariants.{OutOfRange, WrongState, Held, RightMissing}
use Rattle.areas.specs.Answers.{Test, need, verdict, passed, all_passed, need_holds, need_fails, Check}
use Rattle.records.specs.Records.{txn_count}
use Rattle.areas.specs.Areas.{Areas}
use Rattle.areas.specs.Layout.{readers_at, writers_at, client_count, reading, writing}
use Rattle.areas.specs.Tables.{at, gain, lose, is_txn, is_active, can_write, can_read}
use Rattle.calls.specs.Rights.{client_of, may_lock}
use Rattle.calls.specs.Locks.{no_other, holder_of, lock_read_tests, read_locked, lock_write_tests, write_locked}
use Rattle.acceptance.specs.Entered.{Open}
use Rattle.acceptance.specs.Working.{client_in}
use Rattle.store_ops.specs.Tables.{page_range}

-- nobody but t writes the page, nor reads it where t wants to write
abbrev pub is_free : List ℕ → ℕ → ℕ → ℕ → Bool → Bool
is_free w n t p write = no_other w (writers_at n p) t && (not write || no_other w (readers_at n p) t)

-- who bars the way, the lowest of them
unfoldable pub way_to : List ℕ → ℕ → ℕ → ℕ → Bool → Option ℕ
way_to w n t p write = let h = Some (holder_of w n t p) in if (is_free w n t p write) None h

abbrev pub answer_to : Option ℕ → Check
answer_to None = Ok tt
answer_to (Some h) = Err (Held h)

-- the right that a lock needs
abbrev pub right_for : Bool → ℕ
right_for write = if write writing reading

-- every transaction's client is one of the eight
abbrev pub ClientsIn : List ℕ → ℕ → Type 0
ClientsIn w n = (t : ℕ) → t < txn_count → client_of w n t < client_count

pub open_clients : (s : Areas) (n : ℕ) → Open s n → ClientsIn s.work n
open_clients s n o t = client_in s.work n _ t o.ranged.working

-- the tests of both locks
unfoldable pub lock_tests : List ℕ → ℕ → ℕ → ℕ → Bool → List Test
lock_tests w n t p write =
    need 3 OutOfRange (is_txn t && ltb p n)
    ∷ need 4 WrongState (is_active w t)
    ∷ need 19 RightMissing (may_lock w n t p (right_for write))
    ∷ need 6 (Held (holder_of w n t p)) (is_free w n t p write)
    ∷ []

-- as the code finds it: the masks without t, and the lowest bit of both together
module _ (w : List ℕ) (n t p : ℕ) (write : Bool) {i j r v : ℕ} (hi : i ≡ readers_at n p) (hj : j ≡ writers_at n p) (hr : r ≡ without_bit (at w i) t) (hv : v ≡ without_bit (at w j) t) where
  readers : r ≡ without_bit (at w (readers_at n p)) t
  readers = hr ∙ rw hi

  writers : v ≡ without_bit (at w (writers_at n p)) t
  writers = hv ∙ rw hj

  pub way_clear : eqb v 0 && (not write || eqb r 0) ≡ true → None ≡ way_to w n t p write
  unfolding way_to
  way_clear h = rw (← readers, ← writers, h)

  other : (u : ℕ) → bit (bit_or r v) u ≡ (not (eqb u t) && can_read w n u p)
  other u = rw (readers, writers) (or_others (at w (readers_at n p)) (at w (writers_at n p)) t u)

  pub way_barred : {h : ℕ} → eqb v 0 && (not write || eqb r 0) ≡ false → h ≡ lowest (bit (bit_or r v)) txn_count → Some h ≡ way_to w n t p write
  unfolding way_to holder_of
  way_barred h e = rw (← readers, ← writers, h) (ap Some (e ∙ lowest_same (bit (bit_or r v)) (λ u. not (eqb u t) && can_read w n u p) txn_count (λ u l. other u)))

-- a bit above the transactions ends the search for the lowest
pub lowest_txn : (m x : ℕ) → x ≡ with_bit m txn_count → count_trailing_zeros 32 x ≡ lowest (bit m) txn_count
lowest_txn m x e = trailing_lowest 32 x ∙ rw e (lowest_capped (bit m) (bit (with_bit m txn_count)) txn_count 32 (omega arith) (λ i l. with_other m txn_count i (λ z. omega arith)) (with_same m txn_count))

answered : (b : Bool) (h : ℕ) → answer_to (if b None (Some h)) ≡ verdict (need 6 (Held h) b ∷ [])
answered true h = all_passed ∙ need_holds _ _ _ _ refl
answered false h = need_fails _ _ _ _ refl

-- the right that the code asks for
pub right_asked : (w : List ℕ) (n t p : ℕ) (write : Bool) {r : ℕ} {b : Bool} → r ≡ right_for write → b ≡ may_lock w n t p r → may_lock w n t p (right_for write) ≡ b
right_asked w n t p write e d = sym (d ∙ ap (may_lock w n t p) e)

module _ (w : List ℕ) (n t p : ℕ) (write : Bool) where
  pub lock_outside : is_txn t && ltb p n ≡ false → Err OutOfRange ≡ verdict (lock_tests w n t p write)
  unfolding lock_tests
  lock_outside h = need_fails _ _ _ _ h

  pub lock_inactive : is_txn t && ltb p n ≡ true → is_active w t ≡ false → Err WrongState ≡ verdict (lock_tests w n t p write)
  unfolding lock_tests
  lock_inactive h a = need_fails _ _ _ _ a ∙ need_holds _ _ _ _ h

  pub lock_unright : is_txn t && ltb p n ≡ true → is_active w t ≡ true → may_lock w n t p (right_for write) ≡ false → Err RightMissing ≡ verdict (lock_tests w n t p write)
  unfolding lock_tests
  lock_unright h a r = need_fails _ _ _ _ r ∙ need_holds _ _ _ _ a ∙ need_holds _ _ _ _ h

  pub lock_answer : is_txn t && ltb p n ≡ true → is_active w t ≡ true → may_lock w n t p (right_for write) ≡ true → {y : Option ℕ} → y ≡ way_to w n t p write → answer_to y ≡ verdict (lock_tests w n t p write)
  unfolding lock_tests way_to
  lock_answer h a r e = ap answer_to e ∙ answered (is_free w n t p write) (holder_of w n t p) ∙ need_holds _ _ _ _ r ∙ need_holds _ _ _ _ a ∙ need_holds _ _ _ _ h

  pub lock_passed : verdict (lock_tests w n t p write) ≡ Ok tt → (t < txn_count) × (p < n)
  unfolding lock_tests
  lock_passed h = page_range n t p (passed _ 0 h)

-- the tests of each call
pub lock_read_as : (s : Areas) (n t p : ℕ) → lock_tests s.work n t p false ≡ lock_read_tests s n t p
unfolding lock_tests lock_read_tests
lock_read_as s n t p = rw (and_true (no_other s.work (writers_at n p) t))

pub lock_write_as : (s : Areas) (n t p : ℕ) → lock_tests s.work n t p true ≡ lock_write_tests s n t p
unfolding lock_tests lock_write_tests
lock_write_as s n t p = rw (and_comm (no_other s.work (writers_at n p) t) (no_other s.work (readers_at n p) t))

-- the tables with their lock, as the code leaves them
module _ (w : List ℕ) (n t p : ℕ) where
  pub read_stays : can_write w n t p ≡ true → w ≡ read_locked w n t p
  unfolding read_locked
  read_stays h = sym (if_t _ _ _ h)

  pub read_gains : {v : List ℕ} {i : ℕ} → i ≡ readers_at n p → can_write w n t p ≡ false → v ≡ gain w i t → v ≡ read_locked w n t p
  unfolding read_locked
  read_gains place h e = e ∙ rw place (sym (if_f _ _ _ h))

  pub write_gains : {v u : List ℕ} {i j : ℕ} → i ≡ readers_at n p → j ≡ writers_at n p → v ≡ lose w i t → u ≡ gain v j t → u ≡ write_locked w n t p
  unfolding write_locked
  write_gains {v} {u} {i} {j} place place' d e = e ∙ rw (d, place, place')
