-- How many pages a length gives, and which objects of them can be occupied: none beyond the end. Assumes nothing.
use Prim.Native.Nat.{ℕ, ◌*◌, ◌<◌, ◌≤◌}
use native.Mathlib.Omega.{arith}
use mathlib.Core.Path.{◌≡◌}
use mathlib.Core.Bool.{true, false, ◌&&◌}
use mathlib.Core.List.{List}
use lib.Dec.{leb, ltb, eqb}
use lib.ListN.{length, get_or-eq_default}
use borrow.Author.Tests.{leb-true, ltb-true, ltb-false, eqb-true}
use Rattle.words.specs.Tests.{by_bool, clash, and_split}
use Rattle.words.specs.Bits.{bit_none}
use Rattle.pages.specs.Geometry.{page_words, max_pages, object_count, page_at, page_of, slot_of}
use Rattle.pages.specs.Objects.{occupied}
use Rattle.areas.specs.Ranges.{pages_in}
use Rattle.reach_walk.specs.Wholeness.{area_fits}
use Rattle.reach_walk.specs.Walk.{PagesOf}

pub beyond_free : (a : List ℕ) (n x : ℕ) → length a ≡ page_words * n → object_count n < x → occupied a x ≡ false
beyond_free a n x e h = rw (get_or-eq_default a 0 {n = page_at (page_of x)} (omega arith)) (bit_none (slot_of x))

pub occupied_below : (a : List ℕ) (n x : ℕ) → length a ≡ page_words * n → occupied a x ≡ true → x ≤ object_count n
occupied_below a n x e h = by_bool (ltb (object_count n) x)
    (λ t. clash h (beyond_free a n x e (ltb-true (object_count n) x t)))
    (λ t. ltb-false (object_count n) x t)

-- an area that fits is one of n pages
pub fits_pages : (a : List ℕ) (n : ℕ) → area_fits a ≡ true → n ≡ pages_in (length a) → PagesOf a n
fits_pages a n h e =
    let m = pages_in (length a) in
    let p = and_split (leb 1 m && leb m max_pages) (eqb (length a) (page_words * m)) h in
    let q = and_split (leb 1 m) (leb m max_pages) p.0 in
    rw e (record { exact = eqb-true (length a) (page_words * m) p.1; few = leb-true m max_pages q.1 })
