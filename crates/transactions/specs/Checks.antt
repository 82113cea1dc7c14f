-- Refusals 3, 4, 10 and 11 of begin and commit, of the lists that they read. Assumes nothing.
use Rattle.std.specs.Prelude.{ℕ, ◌<◌, ◌≤◌, ◌≡◌, true, false, ◌&&◌, List, [], Ok, Err}
use Rattle.std.proofs.Common.{ap, ◌∙◌, arith, lt-ltb, le-ltb, ltb-true}
use Rattle.std.proofs.Math.Bool.{not}
use Rattle.words.specs.Tests.{all, all_out, all_end, and_split}
use Rattle.areas.specs.declared.Refusal.TheVariants.{OutOfRange, WrongState, Unflushed, LogFull}
use Rattle.areas.specs.Answers.{verdict, all_passed, need_holds, need_fails, Check}
use Rattle.areas.specs.Areas.{Areas, areas}
use Rattle.areas.specs.Layout.{HasUndoing, unflushed_at, client_count}
use Rattle.areas.specs.Tables.{has, is_txn, is_active}
use Rattle.records.specs.Records.{txn_count, begin_of, commit_of}
use Rattle.calls.specs.Room.{change_room, room_beyond, room_within}
use Rattle.calls.specs.Rights.{is_client}
use Rattle.calls.specs.Transactions.{all_flushed, begin_tests, commit_tests}
use Rattle.acceptance.specs.Entered.{Open}
use Rattle.acceptance.specs.Transactions.{begin_facts, commit_facts}
use Rattle.log_ops.specs.Logs.{Fits, open_fits}
use Rattle.record_laws.specs.SoundRecords.{begin_sound, commit_sound}

-- the lists that a check does not read
pub begin_as : (s c r g k w : List ℕ) (n t d : ℕ) {x : Check} → x ≡ verdict (begin_tests (areas [] [] [] g k w) n t d) → x ≡ verdict (begin_tests (areas s c r g k w) n t d)
unfolding begin_tests room_beyond
begin_as s c r g k w n t d e = e

pub commit_as : (s c r g k w : List ℕ) (n t : ℕ) {x : Check} → x ≡ verdict (commit_tests (areas [] [] [] g k w) n t) → x ≡ verdict (commit_tests (areas s c r g k w) n t)
unfolding commit_tests
commit_as s c r g k w n t e = e

-- a transaction and a client in range
pub client_range : (t c : ℕ) → is_txn t && is_client c ≡ true → (t < txn_count) × (c < client_count)
client_range t c h = let p = and_split (is_txn t) (is_client c) h in (ltb-true _ _ p.0, ltb-true _ _ p.1)

module _ (s : Areas) (n t c : ℕ) where
  pub begin_outside : is_txn t && is_client c ≡ false → Err OutOfRange ≡ verdict (begin_tests s n t c)
  unfolding begin_tests
  begin_outside h = need_fails _ _ _ _ h

  module _ (h : is_txn t && is_client c ≡ true) where
    pub begin_active : is_active s.work t ≡ true → Err WrongState ≡ verdict (begin_tests s n t c)
    unfolding begin_tests
    begin_active a = need_fails _ _ _ _ (ap not a) ∙ need_holds _ _ _ _ h

    module _ (a : is_active s.work t ≡ false) where
      pub begin_passes : room_beyond s n change_room ≡ true → Ok tt ≡ verdict (begin_tests s n t c)
      unfolding begin_tests
      begin_passes b = all_passed ∙ need_holds _ _ _ _ b ∙ need_holds _ _ _ _ (ap not a) ∙ need_holds _ _ _ _ h

      pub begin_full : room_beyond s n change_room ≡ false → Err LogFull ≡ verdict (begin_tests s n t c)
      unfolding begin_tests
      begin_full b = need_fails _ _ _ _ b ∙ need_holds _ _ _ _ (ap not a) ∙ need_holds _ _ _ _ h

-- the scan of the unflushed records
module _ (w : List ℕ) (n t : ℕ) where
  pub flushed_not : (p : ℕ) → p < n → has w (unflushed_at n p) t ≡ true → false ≡ all_flushed w n t
  unfolding all_flushed
  flushed_not p l h = all_out (λ q. not (has w (unflushed_at n q) t)) n p l (ap not h)

  pub flushed_end : (i : ℕ) → i ≤ n → n ≤ i → all (λ q. not (has w (unflushed_at n q) t)) i ≡ true → true ≡ all_flushed w n t
  unfolding all_flushed
  flushed_end i l m h = all_end (λ q. not (has w (unflushed_at n q) t)) n i l m h

module _ (s : Areas) (n t : ℕ) where
  pub commit_outside : txn_count ≤ t → Err OutOfRange ≡ verdict (commit_tests s n t)
  unfolding commit_tests
  commit_outside h = need_fails _ _ _ _ (le-ltb t txn_count h)

  module _ (h : t < txn_count) where
    pub commit_inactive : is_active s.work t ≡ false → Err WrongState ≡ verdict (commit_tests s n t)
    unfolding commit_tests
    commit_inactive a = need_fails _ _ _ _ a ∙ need_holds _ _ _ _ (lt-ltb t txn_count h)

    module _ (a : is_active s.work t ≡ true) where
      pub commit_unflushed : all_flushed s.work n t ≡ false → Err Unflushed ≡ verdict (commit_tests s n t)
      unfolding commit_tests
      commit_unflushed f = need_fails _ _ _ _ f ∙ need_holds _ _ _ _ a ∙ need_holds _ _ _ _ (lt-ltb t txn_count h)

      pub commit_passes : all_flushed s.work n t ≡ true → room_within s 1 ≡ true → Ok tt ≡ verdict (commit_tests s n t)
      unfolding commit_tests
      commit_passes f b = all_passed ∙ need_holds _ _ _ _ b ∙ need_holds _ _ _ _ f ∙ need_holds _ _ _ _ a ∙ need_holds _ _ _ _ (lt-ltb t txn_count h)

      pub commit_full : all_flushed s.work n t ≡ true → room_within s 1 ≡ false → Err LogFull ≡ verdict (commit_tests s n t)
      unfolding commit_tests
      commit_full f b = need_fails _ _ _ _ b ∙ need_holds _ _ _ _ f ∙ need_holds _ _ _ _ a ∙ need_holds _ _ _ _ (lt-ltb t txn_count h)

-- what the code that makes the change needs of a call whose tests passed
pub begin_ready : (s : Areas) (n t c : ℕ) → Open s n → verdict (begin_tests s n t c) ≡ Ok tt →
    Fits s.received s.log s.counts (begin_of t) × (HasUndoing s.work n 0 × (0 < n) × (t < txn_count))
begin_ready s n t c o h =
    let f = begin_facts s n t c h in
    let z = o.sized in
    let l = f.room in
    (open_fits s n (begin_of t) o (begin_sound n t f.txn) (omega arith), ((z.top, omega arith), omega arith, f.txn))

pub commit_ready : (s : Areas) (n t : ℕ) → Open s n → verdict (commit_tests s n t) ≡ Ok tt →
    Fits s.received s.log s.counts (commit_of t) × (HasUndoing s.work n 0 × (0 < n) × (t < txn_count))
commit_ready s n t o h =
    let f = commit_facts s n t h in
    let z = o.sized in
    (open_fits s n (commit_of t) o (commit_sound n t f.txn) f.room, ((z.top, omega arith), omega arith, f.txn))
