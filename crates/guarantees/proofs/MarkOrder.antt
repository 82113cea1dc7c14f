-- The places of a transaction's marks in the order of setting: those set have the places from 1 on, one each. Setting a mark and dropping
-- later ones keep this. There are four marks, so it is computed for all their places. Assumes nothing.
use Prim.Native.Nat.{ℕ, zero, suc, ◌+◌, ◌≤◌, ◌<◌}
use native.Mathlib.Omega.{arith}
use native.Mathlib.Decide.{ℕ_discrete}
use mathlib.Core.Path.{◌≡◌, refl, sym, ap, ◌∙◌, subst}
use mathlib.Core.List.{List}
use mathlib.Core.Bool.{Bool, true, false, not, ◌&&◌, ◌||◌}
use lib.ListN.{length, set, length-set}
use lib.Seq.{get_or-set_same, get_or-set_other}
use lib.Dec.{eqb, leb, ltb}
use borrow.Author.Tests.{eqb-true, eqb-false, ne_eqb, leb-true, le-leb, ltb-true, ltb-false, lt-ltb, le-ltb}
use Rattle.words.specs.Tests.{if, all, count, by_bool, clash, and_split, all_at, count_same}
use Rattle.words.specs.Counts.{count_most}
use Rattle.words.specs.Spans.{over, length_over, over_inside}
use Rattle.records.specs.Records.{txn_count}
use Rattle.areas.specs.Layout.{mark_count, marked_at, order_at, undoing_from}
use Rattle.areas.specs.Tables.{at}
use Rattle.calls.specs.Marks.{order_of, is_set, others_set, moved_up, set_last, dropped}

-- mark j is set
abbrev is_place : (ℕ → ℕ) → ℕ → Bool
is_place o j = not (eqb (o j) 0)

-- a mark's place is the number of those set that are not after it, and no other has it
unfoldable pub orderly : (ℕ → ℕ) → Bool
orderly o = all (λ m. eqb (o m) 0 || (eqb (o m) (count (λ j. is_place o j && leb (o j) (o m)) mark_count) && all (λ j. eqb j m || not (eqb (o j) (o m))) mark_count)) mark_count

-- the places after mark m is set, and after those beyond place a are dropped
unfoldable pub set_place : ℕ → (ℕ → ℕ) → ℕ → ℕ
set_place m o j = if (eqb j m) (count (λ i. not (eqb i m) && is_place o i) mark_count + 1) (moved_up (o m) (o j))

unfoldable pub kept_place : ℕ → (ℕ → ℕ) → ℕ → ℕ
kept_place a o j = if (ltb a (o j)) 0 (o j)

-- four places
unfoldable pub places : ℕ → ℕ → ℕ → ℕ → ℕ → ℕ
places a b c d j = if (eqb j 0) a (if (eqb j 1) b (if (eqb j 2) c d))

-- another function's four places
abbrev again : (ℕ → ℕ) → ℕ → ℕ
again f = places (f 0) (f 1) (f 2) (f 3)

-- setting mark m: mark j is before it, and the others' order to j is as it was
unfoldable before : (ℕ → ℕ) → ℕ → ℕ → Bool
before o m j = ltb (set_place m o j) (set_place m o m) && all (λ i. eqb i m || not (leb (set_place m o i) (set_place m o j)) || leb (o i) (o j)) mark_count

-- and the places are orderly again
unfoldable set_right : (ℕ → ℕ) → ℕ → Bool
set_right o m = orderly (again (set_place m o)) && all (λ j. eqb j m || before o m j) mark_count

unfoldable every_place : (ℕ → ℕ → ℕ → ℕ → Bool) → Bool
every_place f = all (λ a. all (λ b. all (λ c. all (λ d. f a b c d) (mark_count + 1)) (mark_count + 1)) (mark_count + 1)) (mark_count + 1)

set_checked : every_place (λ a b c d. not (orderly (places a b c d)) || all (set_right (places a b c d)) mark_count) ≡ true
unfolding every_place all count orderly set_place places before set_right
set_checked = refl

kept_checked : every_place (λ a b c d. not (orderly (places a b c d)) || all (λ k. orderly (again (kept_place k (places a b c d)))) (mark_count + 1)) ≡ true
unfolding every_place all count orderly kept_place places
kept_checked = refl

-- so for every places
every_at : (f : ℕ → ℕ → ℕ → ℕ → Bool) → every_place f ≡ true → (a b c d : ℕ) → a ≤ mark_count → b ≤ mark_count → c ≤ mark_count → d ≤ mark_count → f a b c d ≡ true
unfolding every_place
every_at f h a b c d x y z u = all_at (λ d. f a b c d) (mark_count + 1) d (all_at (λ c. all (λ d. f a b c d) (mark_count + 1)) (mark_count + 1) c
    (all_at (λ b. all (λ c. all (λ d. f a b c d) (mark_count + 1)) (mark_count + 1)) (mark_count + 1) b
    (all_at (λ a. all (λ b. all (λ c. all (λ d. f a b c d) (mark_count + 1)) (mark_count + 1)) (mark_count + 1)) (mark_count + 1) a h (omega arith)) (omega arith)) (omega arith)) (omega arith)

-- where the first holds, the second does
follows : (x y : Bool) → not x || y ≡ true → x ≡ true → y ≡ true
follows true y h e = h
follows false y h e = clash e refl

place_at : (f : ℕ → ℕ) (j : ℕ) → j < mark_count → again f j ≡ f j
unfolding places
place_at f j l = by_bool (eqb j 0) (λ e. rw (e, eqb-true j 0 e) refl) (λ d0. by_bool (eqb j 1) (λ e. rw (d0, e, eqb-true j 1 e) refl) (λ d1. by_bool (eqb j 2) (λ e. rw (d0, d1, e, eqb-true j 2 e) refl)
    (λ d2. let z : j ≡ 3 = (let x = eqb-false j 0 d0 in let y = eqb-false j 1 d1 in let u = eqb-false j 2 d2 in omega arith) in rw (d0, d1, d2, z) refl)))

-- a place is at most the number of marks
place_most : (o : ℕ → ℕ) → orderly o ≡ true → (j : ℕ) → j < mark_count → o j ≤ mark_count
unfolding orderly
place_most o h j l = by_bool (eqb (o j) 0)
    (λ e. let z = eqb-true (o j) 0 e in omega arith)
    (λ e. let p = and_split (eqb (o j) (count (λ i. is_place o i && leb (o i) (o j)) mark_count)) (all (λ i. eqb i j || not (eqb (o i) (o j))) mark_count) (rw e at (all_at _ mark_count j h l)) in
    let d = eqb-true (o j) (count (λ i. is_place o i && leb (o i) (o j)) mark_count) p.0 in let m = count_most (λ i. is_place o i && leb (o i) (o j)) mark_count in omega arith)

-- of a transaction's marks
module _ (f : ℕ → ℕ) (h : orderly (again f) ≡ true) where
  most : (j : ℕ) → j < mark_count → f j ≤ mark_count
  most j l = let e = place_at f j l in let m = place_most (again f) h j l in omega arith

  right : (m : ℕ) → m < mark_count → set_right (again f) m ≡ true
  right m l = all_at (set_right (again f)) mark_count m (follows (orderly (again f)) (all (set_right (again f)) mark_count)
      (every_at (λ a b c d. not (orderly (places a b c d)) || all (set_right (places a b c d)) mark_count) set_checked (f 0) (f 1) (f 2) (f 3)
      (most 0 (omega arith)) (most 1 (omega arith)) (most 2 (omega arith)) (most 3 (omega arith))) h) l

  kept_right : (k : ℕ) → k ≤ mark_count → orderly (again (kept_place k (again f))) ≡ true
  kept_right k l = all_at (λ j. orderly (again (kept_place j (again f)))) (mark_count + 1) k (follows (orderly (again f)) (all (λ j. orderly (again (kept_place j (again f)))) (mark_count + 1))
      (every_at (λ a b c d. not (orderly (places a b c d)) || all (λ j. orderly (again (kept_place j (places a b c d)))) (mark_count + 1)) kept_checked (f 0) (f 1) (f 2) (f 3)
      (most 0 (omega arith)) (most 1 (omega arith)) (most 2 (omega arith)) (most 3 (omega arith))) h) (omega arith)

-- by the words
abbrev places_of : List ℕ → ℕ → ℕ → ℕ → ℕ
places_of w n t = again (order_of w n t)

abbrev pub Orderly : List ℕ → ℕ → ℕ → Type 0
Orderly w n t = orderly (places_of w n t) ≡ true

-- words with the same places
pub orderly_same : (w w' : List ℕ) (n t : ℕ) → ((m : ℕ) → m < mark_count → order_of w' n t m ≡ order_of w n t m) → Orderly w n t → Orderly w' n t
orderly_same w w' n t e h = rw (e 0 (omega arith), e 1 (omega arith), e 2 (omega arith), e 3 (omega arith)) h

pub orderly_none : (w : List ℕ) (n t : ℕ) → ((m : ℕ) → m < mark_count → order_of w n t m ≡ 0) → Orderly w n t
unfolding orderly all count places
orderly_none w n t e = rw (e 0 (omega arith), e 1 (omega arith), e 2 (omega arith), e 3 (omega arith)) refl

-- a mark set
module _ (w : List ℕ) (n t m v : ℕ) (mark : m < mark_count) (len : undoing_from n ≤ length w) (small : t < txn_count) (h : Orderly w n t) where
  abbrev after : List ℕ
  after = set (set_last w n t m) (marked_at n t m) v

  set_place_law : (j : ℕ) → j < mark_count → order_of after n t j ≡ set_place m (places_of w n t) j
  unfolding set_last others_set set_place
  set_place_law j l =
      let c = over (moved_up (order_of w n t m)) w (order_at n t 0) mark_count in
      get_or-set_other (set_last w n t m) (marked_at n t m) (order_at n t j) v 0 (λ e. omega arith) ∙ by_bool (eqb j m)
      (λ e. rw (e, eqb-true j m e) (get_or-set_same c (order_at n t m) (others_set w n t m + 1) 0 (let d = length_over (moved_up (order_of w n t m)) w (order_at n t 0) mark_count in omega arith)
      ∙ ap (λ (k : ℕ). k + 1) (count_same (λ i. not (eqb i m) && is_set w n t i) (λ i. not (eqb i m) && is_place (places_of w n t) i) mark_count (λ i q. ap (λ (k : ℕ). not (eqb i m) && not (eqb k 0)) (sym (place_at (order_of w n t) i q))))))
      (λ e. rw e (get_or-set_other c (order_at n t m) (order_at n t j) (others_set w n t m + 1) 0 (λ d. eqb-false j m e (omega arith))
      ∙ (let p : order_at n t 0 + j ≡ order_at n t j = omega arith in subst (λ (i : ℕ). at c i ≡ moved_up (order_of w n t m) (at w i)) p (over_inside (moved_up (order_of w n t m)) w (order_at n t 0) mark_count j (omega arith) l))
      ∙ ap (λ (k : ℕ). moved_up k (order_of w n t j)) (sym (place_at (order_of w n t) m mark)) ∙ ap (moved_up (places_of w n t m)) (sym (place_at (order_of w n t) j l))))

  whole : set_right (places_of w n t) m ≡ true
  whole = right (order_of w n t) h m mark

  pub set_orderly : Orderly after n t
  unfolding set_right
  set_orderly = rw (set_place_law 0 (omega arith), set_place_law 1 (omega arith), set_place_law 2 (omega arith), set_place_law 3 (omega arith)) (and_split _ _ whole).0

  -- the others are before it, in the order that they had
  others : (j : ℕ) → j < mark_count → eqb j m ≡ false → before (places_of w n t) m j ≡ true
  unfolding set_right
  others j l e = rw e at (all_at (λ i. eqb i m || before (places_of w n t) m i) mark_count j
      (and_split (orderly (again (set_place m (places_of w n t)))) (all (λ i. eqb i m || before (places_of w n t) m i) mark_count) whole).1 l)

  pub set_before : (j : ℕ) → j < mark_count → (j ≡ m → ⊥) → order_of after n t j < order_of after n t m
  unfolding before
  set_before j l d = rw (set_place_law j l, set_place_law m mark) (ltb-true _ _ (and_split _ _ (others j l (ne_eqb j m d))).0)

  pub set_among : (i j : ℕ) → i < mark_count → j < mark_count → (i ≡ m → ⊥) → (j ≡ m → ⊥) → order_of after n t i ≤ order_of after n t j → order_of w n t i ≤ order_of w n t j
  unfolding before
  set_among i j a b x y q =
      let p = all_at (λ i. eqb i m || not (leb (set_place m (places_of w n t) i) (set_place m (places_of w n t) j)) || leb (places_of w n t i) (places_of w n t j)) mark_count i
      (and_split (ltb (set_place m (places_of w n t) j) (set_place m (places_of w n t) m)) _ (others j b (ne_eqb j m y))).1 a in
      let r : leb (places_of w n t i) (places_of w n t j) ≡ true = rw (ne_eqb i m x, le-leb (set_place m (places_of w n t) i) (set_place m (places_of w n t) j) (rw (set_place_law i a, set_place_law j b) at q)) at p in
      let z = leb-true (places_of w n t i) (places_of w n t j) r in
      let c = place_at (order_of w n t) i a in let d = place_at (order_of w n t) j b in omega arith

-- later marks dropped
module _ (w : List ℕ) (n t a : ℕ) (len : undoing_from n ≤ length w) (small : t < txn_count) where
  dropped_length : (k : ℕ) → length (dropped w n t a k) ≡ length w
  unfolding dropped
  dropped_length zero = refl
  dropped_length (suc k) = let v = dropped w n t a k in by_bool (ltb a (order_of v n t k))
      (λ e. rw e (length-set (set v (marked_at n t k) 0) (order_at n t k) 0 ∙ length-set v (marked_at n t k) 0 ∙ dropped_length k))
      (λ e. rw e (dropped_length k))

  -- the first k of them
  dropped_first : (k j : ℕ) → k ≤ mark_count → j < mark_count → order_of (dropped w n t a k) n t j ≡ if (ltb j k) (kept_place a (order_of w n t) j) (order_of w n t j)
  unfolding dropped kept_place
  dropped_first zero j l b = rw (le-ltb j 0 (omega arith)) refl
  dropped_first (suc k) j l b =
      let v = dropped w n t a k in
      let own : order_of v n t k ≡ order_of w n t k = rw (le-ltb k k (omega arith)) at (dropped_first k k (omega arith) (omega arith)) in
      let ih = dropped_first k j (omega arith) b in
      elim (ℕ_discrete j k) [
        | yes e ↦ rw (e, lt-ltb k (suc k) (omega arith)) (by_bool (ltb a (order_of v n t k))
            (λ d. rw d (get_or-set_same (set v (marked_at n t k) 0) (order_at n t k) 0 0 (let x = length-set v (marked_at n t k) 0 in let y = dropped_length k in omega arith) ∙ rw (rw own at d) refl))
            (λ d. rw d (own ∙ rw (rw own at d) refl)))
        | no e ↦ (let same : ltb j (suc k) ≡ ltb j k = next j k e in rw same (by_bool (ltb a (order_of v n t k))
            (λ d. rw d (get_or-set_other (set v (marked_at n t k) 0) (order_at n t k) (order_at n t j) 0 0 (λ x. e (omega arith)) ∙ get_or-set_other v (marked_at n t k) (order_at n t j) 0 0 (λ x. omega arith) ∙ ih))
            (λ d. rw d ih)))
      ]
    where
      next : (j k : ℕ) → (j ≡ k → ⊥) → ltb j (suc k) ≡ ltb j k
      next j k e = by_bool (ltb j k) (λ d. rw d (lt-ltb j (suc k) (let x = ltb-true j k d in omega arith))) (λ d. rw d (le-ltb j (suc k) (let x = ltb-false j k d in omega arith)))

  pub dropped_place : (j : ℕ) → j < mark_count → order_of (dropped w n t a mark_count) n t j ≡ kept_place a (order_of w n t) j
  dropped_place j l = dropped_first mark_count j (omega arith) l ∙ rw (lt-ltb j mark_count l) refl

  pub dropped_orderly : a ≤ mark_count → Orderly w n t → Orderly (dropped w n t a mark_count) n t
  unfolding kept_place
  dropped_orderly l h = rw (again_place 0 (omega arith), again_place 1 (omega arith), again_place 2 (omega arith), again_place 3 (omega arith)) (kept_right (order_of w n t) h a l)
    where
      again_place : (j : ℕ) → j < mark_count → order_of (dropped w n t a mark_count) n t j ≡ kept_place a (places_of w n t) j
      again_place j b = dropped_place j b ∙ ap (λ (k : ℕ). if (ltb a k) 0 k) (sym (place_at (order_of w n t) j b))
