-- Pages copied from one area into another, and 'copies of t's write-locked pages become the received pages', object by object. n is the
-- number of pages. Assumes nothing.
use Prim.Native.Nat.{ℕ, zero, suc, ◌*◌, ◌≤◌, ◌<◌}
use native.Mathlib.Omega.{arith}
use mathlib.Core.Path.{◌≡◌, ◌∙◌}
use mathlib.Core.Bool.{◌&&◌}
use mathlib.Core.List.{List}
use lib.ListN.{length}
use lib.Dec.{eqb, ltb}
use borrow.Author.Tests.{eqb-true, eqb-false, lt-ltb, le-ltb}
use Rattle.words.specs.Tests.{if, by_bool}
use Rattle.pages.specs.Geometry as Geometry
use Rattle.page_laws.specs.ViewLaws.{length_copied}
use Rattle.demand.proofs.Copying.{copied_view}
use Rattle.areas.specs.Tables.{can_write}
use Rattle.calls.specs.Transactions.{restored}
use Rattle.collector.specs.Bits.{◌and◌}
use Rattle.collector.specs.Objects.{page_of}
use Rattle.collector.specs.State.{mix}
use Rattle.machine_view.specs.View.{view}
use Rattle.machine_calls.specs.Tables.{locks_of, page_bit}
use Rattle.page_laws.specs.BitLaws.{below_suc}
use Rattle.pages.specs.Geometry.{page_words}
use Rattle.records.specs.Records.{txn_count}

module _ (w : List ℕ) (n t : ℕ) (received copies : List ℕ) (lr : length received ≡ page_words * n) (lc : length copies ≡ page_words * n) where
  pub length_restored : (k : ℕ) → k ≤ n → length (restored w n t received copies k) ≡ page_words * n
  unfolding restored
  length_restored zero l = lc
  length_restored (suc p) l = by_bool (can_write w n t p)
      (λ e. rw e (length_copied n received (restored w n t received copies p) p lr (length_restored p (omega arith)) (omega arith)))
      (λ e. rw e (length_restored p (omega arith)))

  restored_below : (k : ℕ) → k ≤ n → (x : ℕ)
      → view (restored w n t received copies k) x ≡ if (ltb (Geometry.page_of x) k && can_write w n t (Geometry.page_of x)) (view received x) (view copies x)
  unfolding restored page_of
  restored_below zero l x = rw (le-ltb (Geometry.page_of x) 0 (omega arith))
  restored_below (suc p) l x = by_bool (can_write w n t p)
      (λ e. rw e (copied_view n received (restored w n t received copies p) p lr (length_restored p (omega arith)) (omega arith) x
      ∙ by_bool (eqb (Geometry.page_of x) p)
      (λ d. rw (d, eqb-true (Geometry.page_of x) p d, lt-ltb p (suc p) (omega arith), e))
      (λ d. rw (d, below_suc (Geometry.page_of x) p (eqb-false (Geometry.page_of x) p d)) (restored_below p (omega arith) x))))
      (λ e. rw e (restored_below p (omega arith) x ∙ by_bool (eqb (Geometry.page_of x) p)
      (λ d. rw (eqb-true (Geometry.page_of x) p d, lt-ltb p (suc p) (omega arith), le-ltb p p (omega arith), e))
      (λ d. rw (below_suc (Geometry.page_of x) p (eqb-false (Geometry.page_of x) p d)))))

  -- t's pages are the received ones
  pub restored_view : t < txn_count → (x : ℕ) → view (restored w n t received copies n) x ≡ mix (λ o. (locks_of w n).wr t (page_of o)) (view received) (view copies) x
  unfolding page_of page_bit ◌and◌
  restored_view small x = restored_below n (omega arith) x ∙ rw (lt-ltb t txn_count small) (by_bool (ltb (Geometry.page_of x) n)
      (λ e. rw e (by_bool (can_write w n t (Geometry.page_of x)) (λ d. rw d) (λ d. rw d)))
      (λ e. rw e))
