-- What a pass step's tests on words give the machine. n is the number of pages. Assumes nothing.
use Prim.Native.Nat.{ℕ, zero, suc, ◌+◌, ◌-◌}
use native.Mathlib.Omega.{arith}
use mathlib.Core.Path.{◌≡◌, refl}
use mathlib.Core.Bool.{true, false}
use mathlib.Core.List.{List}
use lib.Dec.{ltb, leb, eqb}
use borrow.Author.Tests.{leb-true, leb-false, eqb-true, eq-eqb, le-leb, not-false}
use Rattle.words.specs.Tests.{by_bool, clash, lowest, lowest_passes, lowest_none}
use Rattle.words.specs.Bits.{bit_none}
use Rattle.pages.specs.Geometry.{is_object, object_count}
use Rattle.areas.specs.Layout.{writers_at, colour_at}
use Rattle.areas.specs.Tables.{at, is_grey}
use Rattle.calls.specs.Pass.{lowest_grey, locked}
use Rattle.collector.specs.Bits.{and_false}
use Rattle.collector.specs.State.{white, grey}
use Rattle.machine_calls.specs.Tables.{page_bit, colour_of, colour_at_object}
use Rattle.page_laws.specs.Places.{object_range}
use Rattle.records.specs.Records.{txn_count}

grey_one : (c : ℕ) → colour_of c ≡ grey → c ≡ 1
grey_one zero h = let z : ◌≡◌ {A = ℕ} 0 1 = cc in absurd (omega arith)
grey_one (suc zero) h = refl
grey_one (suc (suc c)) h = let z : ◌≡◌ {A = ℕ} 0 1 = cc in absurd (omega arith)

not_grey : {A : Type 0} → white ≡ grey → A
not_grey h = let z : ◌≡◌ {A = ℕ} 0 1 = cc in absurd (omega arith)

module _ (w : List ℕ) (n : ℕ) where
  -- the lowest grey object is an object of the store, and grey
  pub lowest_object : leb (lowest_grey w n) (object_count n) ≡ true → is_object n (lowest_grey w n) ≡ true
  unfolding lowest_grey
  lowest_object h = rw (le-leb 1 (lowest (λ k. is_grey w n (k + 1)) (object_count n) + 1) (omega arith), h) refl

  pub lowest_grey_law : leb (lowest_grey w n) (object_count n) ≡ true → colour_at_object w n (lowest_grey w n) ≡ grey
  unfolding lowest_grey colour_at_object
  lowest_grey_law h = let l = leb-true (lowest (λ k. is_grey w n (k + 1)) (object_count n) + 1) (object_count n) h in
      let g = lowest_passes (λ k. is_grey w n (k + 1)) (object_count n) (omega arith) in
      rw (le-leb 1 (lowest (λ k. is_grey w n (k + 1)) (object_count n) + 1) (omega arith), h, eqb-true (at w (colour_at n (lowest (λ k. is_grey w n (k + 1)) (object_count n) + 1))) 1 g) refl

  -- none is left
  pub no_grey_law : leb (lowest_grey w n) (object_count n) ≡ false → (x : ℕ) → colour_at_object w n x ≡ grey → ⊥
  unfolding lowest_grey colour_at_object
  no_grey_law h x c = by_bool (is_object n x)
      (λ o. let r = object_range n x o in let l = r.0 in let u = r.1 in
      let k = leb-false (lowest (λ j. is_grey w n (j + 1)) (object_count n) + 1) (object_count n) h in
      let z = lowest_none (λ j. is_grey w n (j + 1)) (object_count n) (omega arith) (x - 1) (omega arith) in
      let e : (x - 1) + 1 ≡ x = omega arith in
      clash (eq-eqb (at w (colour_at n x)) 1 (grey_one (at w (colour_at n x)) (rw o at c))) (rw e at z))
      (λ o. not_grey (rw o at c))

  -- a page that is not skipped has no writer
  pub unlocked_unwritten : (p : ℕ) → locked w n p ≡ false → (t : ℕ) → page_bit w n (writers_at n) t p ≡ false
  unfolding page_bit
  unlocked_unwritten p h t =
      let z : at w (writers_at n p) ≡ 0 = eqb-true (at w (writers_at n p)) 0 (not-false (eqb (at w (writers_at n p)) 0) h) in
      rw (z, bit_none t, and_false (ltb p n), and_false (ltb t txn_count)) refl
