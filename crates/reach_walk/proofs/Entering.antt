-- The queue of a walk: it starts with no object found, and an object that enters it is marked. Assumes nothing.
use Prim.Native.Nat.{ℕ, ◌+◌, ◌-◌, ◌<◌, ◌≤◌}
use native.Mathlib.Omega.{arith}
use native.Mathlib.Decide.{ℕ_discrete}
use mathlib.Core.Path.{◌≡◌, sym, ap, ◌∙◌}
use mathlib.Core.Bool.{false, not}
use mathlib.Core.List.{List}
use lib.Dec.{eqb}
use lib.ListN.{get_or, set, replicate, length-set, length-replicate}
use lib.Seq.{get_or-set_same, get_or-set_other}
use borrow.Author.Tests.{ne_eqb}
use Rattle.words.specs.Tests.{clash}
use Rattle.pages.specs.Geometry.{object_count}
use Rattle.reach_walk.specs.declared.Walk.{Walk}
use Rattle.reach_walk.specs.Walk.{mark, Marked, Consistent, Grown}
use Rattle.words.specs.Spans.{zero_at}
use Rattle.words.specs.Counts.{count_none, count_most, count_less, count_more}

-- a walk by its parts
abbrev pub walk : List ℕ → List ℕ → ℕ → Walk
walk m q t = record { marks = m; queue = q; tail = t }

-- nothing is marked at the start
pub start : (E : ℕ → Type 0) (n k : ℕ) → object_count n ≤ k → Consistent E n (walk (replicate k 0) (replicate k 0) 0)
start E n k b = record {
  mark_room = simp length-replicate b;
  queue_room = simp length-replicate b;
  counted = sym (count_none _ (object_count n) unmarked);
  entry = λ j l. absurd (omega arith);
  queued = λ i m. clash m (unmarked i);
}
  where
    unmarked : (i : ℕ) → not (eqb (get_or (replicate k 0) i 0) 0) ≡ false
    unmarked i = rw (zero_at k i)

-- there is room while an object is not marked
pub room : {E : ℕ → Type 0} {n : ℕ} {w : Walk} → Consistent E n w → (x : ℕ) → 1 ≤ x → x ≤ object_count n → mark w (x - 1) ≡ false → w.tail < object_count n
room {E} {n} {w} r x l h e = rw r.counted (count_less (mark w) (object_count n) (x - 1) (omega arith) e)

pub tail_below : {E : ℕ → Type 0} {n : ℕ} {w : Walk} → Consistent E n w → w.tail ≤ object_count n
tail_below {E} {n} {w} r = rw r.counted (count_most (mark w) (object_count n))

-- object x enters the queue, marked by v
abbrev pub entered : Walk → ℕ → ℕ → Walk
entered w x v = walk (set w.marks (x - 1) v) (set w.queue w.tail x) (w.tail + 1)

module _ {E : ℕ → Type 0} {n : ℕ} {w : Walk} (r : Consistent E n w) (x v : ℕ) (low : 1 ≤ x) (high : x ≤ object_count n) (e : E x) (some : v ≡ 0 → ⊥)
    (new : mark w (x - 1) ≡ false) where
  now_marked : Marked (entered w x v) x
  now_marked = let b = r.mark_room in rw (get_or-set_same w.marks (x - 1) v 0 (omega arith), ne_eqb v 0 some)

  mark_kept : (j : ℕ) → (j ≡ x - 1 → ⊥) → mark (entered w x v) j ≡ mark w j
  mark_kept j d = ap (λ (y : ℕ). not (eqb y 0)) (get_or-set_other w.marks (x - 1) j v 0 d)

  place_new : get_or (set w.queue w.tail x) w.tail 0 ≡ x
  place_new = let f = room r x low high new in let b = r.queue_room in get_or-set_same w.queue w.tail x 0 (omega arith)

  place_kept : (k : ℕ) → k < w.tail → get_or (set w.queue w.tail x) k 0 ≡ get_or w.queue k 0
  place_kept k l = get_or-set_other w.queue w.tail k x 0 (λ z. omega arith)

  now_consistent : Consistent E n (entered w x v)
  now_consistent = record {
    mark_room = simp length-set r.mark_room;
    queue_room = simp length-set r.queue_room;
    counted = ap (λ (j : ℕ). j + 1) r.counted
        ∙ sym (count_more (mark w) (mark (entered w x v)) (object_count n) (x - 1) (omega arith) new now_marked mark_kept);
    entry = λ k l. elim (ℕ_discrete k w.tail) [
      | yes z ↦ rw (z, place_new) e
      | no z ↦ (let b : k < w.tail = omega arith in rw (place_kept k b) (r.entry k b))
    ];
    queued = λ j h. elim (ℕ_discrete j (x - 1)) [
      | yes z ↦ record { place = w.tail; below = omega arith; here = place_new ∙ (omega arith) }
      | no z ↦ (let o = r.queued j (sym (mark_kept j z) ∙ h) in record { place = o.place; below = omega arith; here = place_kept o.place o.below ∙ o.here })
    ];
  }

  now_grown : Grown w (entered w x v)
  now_grown = record {
    marks = λ j h. elim (ℕ_discrete j (x - 1)) [ yes z ↦ rw z now_marked | no z ↦ mark_kept j z ∙ h ];
    places = place_kept;
    more = omega arith;
  }

  pub enters : Consistent E n (entered w x v) × Grown w (entered w x v) × Marked (entered w x v) x
  enters = (now_consistent, now_grown, now_marked)
