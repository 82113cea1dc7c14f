-- Working tables after a change of one word or of a run of words. Assumes nothing.
use Rattle.std.specs.Prelude.{ℕ, zero, suc, ◌+◌, ◌-◌, ◌<◌, ◌≤◌, ◌≡◌, true, false, ◌&&◌, List, length, take, drop, get_or, set, ltb}
use Rattle.std.proofs.Math.Path.{sym}
use Rattle.std.proofs.Math.ListN.{take-append-drop}
use Rattle.std.proofs.Common.{ap, ◌∙◌, length-take-le, arith}
use Rattle.std.proofs.lemmas.List.{get_or-append_right, get_or_append_left, set-append_right, set-append_left}
use borrow.Rule.Slice.PartMut.{put_mid}
use mathlib.Core.List.{◌++◌}
use borrow.Author.Tests.{ltb-true, eq-eqb, ne_eqb}
use Rattle.words.specs.Tests.{and_split, and_t, and_f, if_t, if_f}
use Rattle.words.specs.Spans.{over, over_next}
use Rattle.pages.specs.Geometry.{max_pages, object_count}
use Rattle.page_laws.specs.Places.{object_range}
use Rattle.records.specs.Records.{txn_count}
use Rattle.areas.specs.Layout.{colour_at}
use Rattle.areas.specs.Tables.{is_txn, at, pass_first, may_mark, greyed}

-- one more turn of a loop over a run of words
pub over_turn : (f : ℕ → ℕ) (w : List ℕ) (a k : ℕ) (x : List ℕ) (v : ℕ) → x ≡ over f w a k → v ≡ f (get_or x (a + k) 0) → set x (a + k) v ≡ over f w a (k + 1)
over_turn f w a k x v h e = rw (e, h) (over_next f w a k)

-- the same over a part of the list, as the library's slices lend and write it: v is the part after n turns
pub part_none : (f : ℕ → ℕ) (w : List ℕ) (a k : ℕ) → put_mid a k w (take k (drop a w)) ≡ over f w a 0
unfolding over
part_none f w a k = ap (λ (r : List ℕ). take a w ++ r) (take-append-drop k (drop a w)) ∙ take-append-drop a w

pub part_turn : (f : ℕ → ℕ) (w : List ℕ) (a k n : ℕ) (v : List ℕ) (y : ℕ) → put_mid a k w v ≡ over f w a n → a ≤ length w → n < length v → y ≡ f (get_or v n 0)
    → put_mid a k w (set v n y) ≡ over f w a (n + 1)
part_turn f w a k n v y h room l e =
    let post : List ℕ = drop k (drop a w) in
    let la : length (take a w) ≡ a = length-take-le a w room in
    let q : a + n - a ≡ n = omega arith in
    let read : get_or (put_mid a k w v) (a + n) 0 ≡ get_or v n 0 =
    get_or-append_right (take a w) (v ++ post) a (a + n) 0 la (omega arith) ∙ ap (λ (i : ℕ). get_or (v ++ post) i 0) q ∙ get_or_append_left v post 0 n l in
    let written : set (put_mid a k w v) (a + n) y ≡ put_mid a k w (set v n y) =
    set-append_right (take a w) (v ++ post) a (a + n) y la (omega arith)
    ∙ ap (λ (i : ℕ). take a w ++ set (v ++ post) i y) q
    ∙ ap (λ (r : List ℕ). take a w ++ r) (set-append_left v post n y l) in
    sym written ∙ over_turn f w a n (put_mid a k w v) y h (e ∙ ap f (sym read))

-- two runs that follow one another are one run
pub over_join : (f : ℕ → ℕ) (w : List ℕ) (a m k : ℕ) → over f (over f w a m) (a + m) k ≡ over f w a (m + k)
unfolding over
over_join f w a m zero = let e : m + 0 ≡ m = omega arith in rw e
over_join f w a m (suc k) =
    let e : m + suc k ≡ suc (m + k) = omega arith in
    let d : a + m + k ≡ a + (m + k) = omega arith in
    rw (e, over, over_join f w a m k, d)

-- what a pass may mark is an object
pub mark_facts : (w : List ℕ) (n o : ℕ) → may_mark w n o ≡ true → (1 ≤ o) × (o ≤ object_count n)
mark_facts w n o h = object_range n o h

-- the first page that a pass covers is in range
pub first_below : (w : List ℕ) (n : ℕ) → n ≤ max_pages → pass_first w n ≤ max_pages
first_below w n h = omega arith

-- an object that turns grey, and one that does not, its colour standing at i
module _ (w : List ℕ) (n o : ℕ) where
  pub greyed_outside : may_mark w n o ≡ false → w ≡ greyed w n o
  unfolding greyed
  greyed_outside h = sym (if_f _ _ _ (and_f _ _ h))

  module _ {i : ℕ} (place : i ≡ colour_at n o) (h : may_mark w n o ≡ true) where
    pub greyed_white : at w i ≡ 0 → set w i 1 ≡ greyed w n o
    unfolding greyed
    greyed_white e = let z : at w (colour_at n o) ≡ 0 = rw (← place) e in rw place (sym (if_t _ _ _ (and_t _ _ h ∙ eq-eqb _ _ z)))

    pub greyed_marked : (at w i ≡ 0 → ⊥) → w ≡ greyed w n o
    unfolding greyed
    greyed_marked e = sym (if_f _ _ _ (and_t _ _ h ∙ ne_eqb _ _ (λ z. e (rw place z))))

-- a transaction and a page in range
pub page_range : (n t p : ℕ) → is_txn t && ltb p n ≡ true → (t < txn_count) × (p < n)
page_range n t p h = let q = and_split (is_txn t) (ltb p n) h in (ltb-true _ _ q.0, ltb-true _ _ q.1)
