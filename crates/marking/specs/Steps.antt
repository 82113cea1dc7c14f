-- A marking step over the copies and the working tables, and the step number. n is the number of pages. Assumes nothing.
use Rattle.std.specs.Prelude.{ℕ, ◌<◌, ◌≤◌, ◌≡◌, refl, Bool, true, false, List, leb}
use Rattle.std.proofs.Math.Path.{sym}
use Rattle.std.proofs.Common.{◌∙◌, le-leb}
use Rattle.std.proofs.lemmas.Bool.{lt-leb}
use Rattle.words.specs.Tests.{if, if_t, if_f}
use Rattle.pages.specs.Geometry.{object_count}
use Rattle.areas.specs.Areas.{Areas, done, with_work}
use Rattle.areas.specs.Layout.{pass_page_at}
use Rattle.areas.specs.Tables.{at, pass_first, with_pass, steps_next}
use Rattle.calls.specs.Pass.{lowest_grey, scanned, marked}

-- a step's answer, and the working tables after it
unfoldable pub mark_value : List ℕ → ℕ → ℕ
mark_value w n = if (leb (lowest_grey w n) (object_count n)) (lowest_grey w n) 0

unfoldable pub mark_work : List ℕ → List ℕ → ℕ → List ℕ
mark_work c w n =
    if (leb (lowest_grey w n) (object_count n)) (with_pass (scanned c w n (lowest_grey w n)) 1 (at w pass_page_at) (steps_next w n))
    (with_pass w 2 (pass_first w n) (steps_next w n))

choose : (b : Bool) (s : Areas) (o : ℕ) (v u : List ℕ) → done (if b o 0) (with_work s (if b v u)) ≡ if b (done o (with_work s v)) (done 0 (with_work s u))
choose true s o v u = refl
choose false s o v u = refl

pub marked_as : (s : Areas) (n : ℕ) → done (mark_value s.work n) (with_work s (mark_work s.copies s.work n)) ≡ marked s n
unfolding mark_value mark_work marked
marked_as s n = choose (leb (lowest_grey s.work n) (object_count n)) s (lowest_grey s.work n) _ _

-- o: the object that the search found
module _ (w : List ℕ) (n o : ℕ) (found : o ≡ lowest_grey w n) where
  pub value_scan : o ≤ object_count n → o ≡ mark_value w n
  unfolding mark_value
  value_scan h = found ∙ sym (if_t _ _ _ (le-leb _ _ (rw found at h)))

  pub value_turn : object_count n < o → 0 ≡ mark_value w n
  unfolding mark_value
  value_turn h = sym (if_f _ _ _ (lt-leb _ _ (rw found at h)))

  module _ (c y : List ℕ) where
    pub work_scan : (x : List ℕ) → o ≤ object_count n → x ≡ scanned c w n o → y ≡ with_pass x 1 (at w pass_page_at) (steps_next w n) → y ≡ mark_work c w n
    unfolding mark_work
    work_scan x h e k = k ∙ rw (e, found) (sym (if_t _ _ _ (le-leb _ _ (rw found at h))))

    pub work_turn : object_count n < o → y ≡ with_pass w 2 (pass_first w n) (steps_next w n) → y ≡ mark_work c w n
    unfolding mark_work
    work_turn h k = k ∙ sym (if_f _ _ _ (lt-leb _ _ (rw found at h)))
