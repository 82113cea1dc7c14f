-- Refusals 3 and 4 of a mark, of the tables that they read; what the code that makes the change needs. n is the number of pages.
-- Assumes nothing.
use Rattle.std.specs.Prelude.{ℕ, ◌<◌, ◌≡◌, true, false, ◌&&◌, List, [], Ok, Err}
use Rattle.std.proofs.Common.{◌∙◌, ltb-true}
use Rattle.words.specs.Tests.{and_split}
use Rattle.records.specs.Records.{txn_count}
use Rattle.areas.specs.declared.Refusal.TheVariants.{OutOfRange, WrongState}
use Rattle.areas.specs.Answers.{verdict, all_passed, need_holds, need_fails, Check}
use Rattle.areas.specs.Areas.{Areas, areas, received_count}
use Rattle.areas.specs.Layout.{HasUndoing, mark_count}
use Rattle.areas.specs.Tables.{is_txn, is_active}
use Rattle.calls.specs.Marks.{is_mark, mark_tests}
use Rattle.acceptance.specs.Entered.{Open}
use Rattle.acceptance.specs.Marks.{mark_facts}
use Rattle.log_ops.specs.Logs.{Kept, open_kept, open_undoing}

-- the lists that a check does not read
pub mark_as : (s c r g k w : List ℕ) (t m : ℕ) {x : Check} → x ≡ verdict (mark_tests (areas [] [] [] [] [] w) t m) → x ≡ verdict (mark_tests (areas s c r g k w) t m)
unfolding mark_tests
mark_as s c r g k w t m e = e

pub mark_range : (t m : ℕ) → is_txn t && is_mark m ≡ true → (t < txn_count) × (m < mark_count)
mark_range t m h = let p = and_split (is_txn t) (is_mark m) h in (ltb-true _ _ p.0, ltb-true _ _ p.1)

module _ (s : Areas) (t m : ℕ) where
  pub mark_outside : is_txn t && is_mark m ≡ false → Err OutOfRange ≡ verdict (mark_tests s t m)
  unfolding mark_tests
  mark_outside h = need_fails _ _ _ _ h

  module _ (h : is_txn t && is_mark m ≡ true) where
    pub mark_inactive : is_active s.work t ≡ false → Err WrongState ≡ verdict (mark_tests s t m)
    unfolding mark_tests
    mark_inactive a = need_fails _ _ _ _ a ∙ need_holds _ _ _ _ h

    pub mark_passes : is_active s.work t ≡ true → Ok tt ≡ verdict (mark_tests s t m)
    unfolding mark_tests
    mark_passes a = all_passed ∙ need_holds _ _ _ _ a ∙ need_holds _ _ _ _ h

-- what the code that makes the change needs of a call whose tests passed
module _ (s : Areas) (n t m : ℕ) (o : Open s n) where
  pub mark_ready : verdict (mark_tests s t m) ≡ Ok tt → Kept s.log s.counts × (HasUndoing s.work n (received_count s) × (t < txn_count) × (m < mark_count))
  mark_ready h = let f = mark_facts s t m h in (open_kept s n o, (open_undoing s n o, f.txn, f.mark))
