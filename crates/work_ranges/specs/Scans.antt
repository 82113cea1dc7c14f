-- Runs of working words, as the code scans them, and the tests that they give. Assumes nothing.
use Rattle.std.specs.Prelude.{ℕ, zero, suc, ◌+◌, ◌*◌, ◌-◌, ◌≤◌, ◌≡◌, refl, Bool, true, false, ◌&&◌, List, [], ◌∷◌, length, take, drop, get_or, leb}
use Rattle.std.specs.List.{list_all}
use Rattle.std.proofs.Math.Seq.{get_or-drop}
use mathlib.Core.List.{◌++◌}
use Rattle.std.proofs.Math.Path.{sym}
use Rattle.std.proofs.Common.{ap, ◌∙◌, take-suc, length-drop, arith}
use Rattle.words.specs.Tests.{all, all_split, all_same, and_cong, and_assoc, and_true}
use Rattle.words.specs.Spans.{up_to}
use Rattle.areas.specs.Tables.{at}
use Rattle.pages.specs.Geometry.{object_count}
use Rattle.records.specs.Records.{txn_count, mask_top}
use Rattle.areas.specs.Layout.{finished, flagged_top, steps_top, colour_top, reopening_at, reopening_page_at, phase_at, pass_page_at, steps_at, active_at, readers_at, writers_at, unflushed_at, known_at, pruned_at, created_at, colour_at, mark_words, marked_at, order_at, client_count, client_at, right_at, undoing_at, changes_top, order_top, client_top, writing, undoing_top}
use Rattle.areas.specs.Ranges.{rows_in_range, work_in_range}

-- a test of every word of a run, as a fold over the slice makes it: one word more, and the whole run
pub tested_more : (f : ℕ → Bool) (ys : List ℕ) (y : ℕ) → list_all f (ys ++ y ∷ []) ≡ list_all f ys && f y
tested_more f [] y = and_true (f y)
tested_more f (x ∷ ys) y = ap (λ (b : Bool). f x && b) (tested_more f ys y) ∙ sym (and_assoc (f x) (list_all f ys) (f y))

tested_run : (f : ℕ → Bool) (w : List ℕ) (a n : ℕ) → a + n ≤ length w → list_all f (take n (drop a w)) ≡ all (λ k. f (get_or w (a + k) 0)) n
unfolding all
tested_run f w a zero h = refl
tested_run f w a (suc n) h = let e = length-drop a w in
    ap (list_all f) (take-suc (drop a w) n 0 (omega arith))
    ∙ tested_more f (take n (drop a w)) (get_or (drop a w) n 0)
    ∙ and_cong (tested_run f w a n (omega arith)) (ap f (get_or-drop a w n 0))

pub tested_up_to : (w : List ℕ) (a n k top : ℕ) {ok : Bool} → a + n ≤ length w → k ≡ n → ok ≡ list_all (λ x. leb x top) (take k (drop a w)) → ok ≡ up_to w a n top
unfolding up_to
tested_up_to w a n k top h q e = e ∙ ap (λ (m : ℕ). list_all (λ x. leb x top) (take m (drop a w))) q ∙ tested_run (λ x. leb x top) w a n h

pub up_to_one : (w : List ℕ) (a top : ℕ) → leb (at w a) top ≡ up_to w a 1 top
unfolding up_to all
up_to_one w a top = let e : a ≡ a + 0 = omega arith in ap (λ (i : ℕ). leb (at w i) top) e

-- a run by other names of its place, length and largest value
pub up_to_as : (w : List ℕ) (a b n m x y : ℕ) {ok : Bool} → ok ≡ up_to w a n x → a ≡ b → n ≡ m → x ≡ y → ok ≡ up_to w b m y
up_to_as w a b n m x y e f g h = e ∙ rw (f, g, h)

-- two runs that follow one another are one run
pub up_to_join : (w : List ℕ) (a m b k n top : ℕ) → b ≡ a + m → n ≡ m + k → up_to w a m top && up_to w b k top ≡ up_to w a n top
unfolding up_to
up_to_join w a m b k n top e f =
    sym (ap (all (λ j. leb (get_or w (a + j) 0) top)) f
    ∙ all_split (λ j. leb (get_or w (a + j) 0) top) m k
    ∙ ap (λ (x : Bool). all (λ j. leb (get_or w (a + j) 0) top) m && x)
    (all_same (λ j. leb (get_or w (a + (m + j)) 0) top) (λ j. leb (get_or w (b + j) 0) top) k
    (λ j l. ap (λ (i : ℕ). leb (get_or w i 0) top) (omega arith))))

-- the masks of transactions are one run, and the flagged tables another
abbrev pub mask_words : ℕ → ℕ
mask_words n = pruned_at n 1 - active_at

abbrev pub flagged_words : ℕ → ℕ
flagged_words n = colour_at n 1 - pruned_at n 1

masks : (w : List ℕ) (n top : ℕ) →
    up_to w active_at 1 top
    && up_to w (readers_at n 0) n top
    && up_to w (writers_at n 0) n top
    && up_to w (unflushed_at n 0) n top
    && up_to w (known_at n 1) (object_count n) top
    ≡ up_to w active_at (mask_words n) top
masks w n top =
    ap (λ (x : Bool). x && up_to w (writers_at n 0) n top && up_to w (unflushed_at n 0) n top && up_to w (known_at n 1) (object_count n) top)
    (up_to_join w active_at 1 (readers_at n 0) n (1 + n) top (omega arith) (omega arith))
    ∙ ap (λ (x : Bool). x && up_to w (unflushed_at n 0) n top && up_to w (known_at n 1) (object_count n) top)
    (up_to_join w active_at (1 + n) (writers_at n 0) n (1 + 2 * n) top (omega arith) (omega arith))
    ∙ ap (λ (x : Bool). x && up_to w (known_at n 1) (object_count n) top)
    (up_to_join w active_at (1 + 2 * n) (unflushed_at n 0) n (1 + 3 * n) top (omega arith) (omega arith))
    ∙ up_to_join w active_at (1 + 3 * n) (known_at n 1) (object_count n) (mask_words n) top (omega arith) (omega arith)

flagged : (w : List ℕ) (n top : ℕ) →
    up_to w (pruned_at n 1) (object_count n) top && up_to w (created_at n 1) (object_count n) top ≡ up_to w (pruned_at n 1) (flagged_words n) top
flagged w n top = up_to_join w (pruned_at n 1) (object_count n) (created_at n 1) (object_count n) (flagged_words n) top (omega arith) (omega arith)

-- the five words, before the runs
abbrev first_in_range : List ℕ → ℕ → Bool
first_in_range w n =
    leb (at w reopening_at) finished
    && leb (at w reopening_page_at) n
    && leb (at w phase_at) 2
    && leb (at w pass_page_at) (n - 1)
    && leb (at w steps_at) (steps_top n)

-- the tables behind the colours
unfoldable pub later_in_range : List ℕ → ℕ → ℕ → Bool
later_in_range w n l =
    up_to w (marked_at n 0 0) mark_words (changes_top l)
    && up_to w (order_at n 0 0) mark_words (order_top l)
    && up_to w (client_at n 0) txn_count (client_top l)
    && up_to w (right_at n 0 0) (client_count * n) writing
    && up_to w (undoing_at n 0) l (undoing_top l)

-- five runs with the answers a, b, c, r and d
pub later_go : (w : List ℕ) (n l : ℕ) {a b c r d : Bool} → a ≡ up_to w (marked_at n 0 0) mark_words (changes_top l) → b ≡ up_to w (order_at n 0 0) mark_words (order_top l) →
    c ≡ up_to w (client_at n 0) txn_count (client_top l) → r ≡ up_to w (right_at n 0 0) (client_count * n) writing → d ≡ up_to w (undoing_at n 0) l (undoing_top l) →
    a && b && c && r && d ≡ later_in_range w n l
unfolding later_in_range
later_go w n l ea eb ec er ed = rw (ea, eb, ec, er, ed)

-- the tests as the code makes them: the five words, three runs with the answers x, y and z, and the tables behind them
module _ (w : List ℕ) (n l : ℕ) {x y z a : Bool} (ex : x ≡ up_to w active_at (mask_words n) mask_top)
    (ey : y ≡ up_to w (pruned_at n 1) (flagged_words n) flagged_top) (ez : z ≡ up_to w (colour_at n 1) (object_count n) colour_top) (ea : a ≡ later_in_range w n l) where
  work_scan : first_in_range w n && x && y && z && a ≡ work_in_range w n l
  unfolding work_in_range rows_in_range later_in_range
  work_scan =
      rw (
        ex ∙ sym (masks w n mask_top),
        ey ∙ sym (flagged w n flagged_top),
        ez,
        ea,
        up_to_one w reopening_at finished,
        up_to_one w reopening_page_at n,
        up_to_one w phase_at 2,
        up_to_one w pass_page_at (n - 1),
        up_to_one w steps_at (steps_top n),
      ) (simp (and_assoc, and_true))

  pub runs_go : first_in_range w n ≡ true → x && y && z && a ≡ work_in_range w n l
  runs_go h = ap (λ (f : Bool). f && x && y && z && a) (sym h) ∙ work_scan

  pub first_stops : first_in_range w n ≡ false → false ≡ work_in_range w n l
  first_stops h = ap (λ (f : Bool). f && x && y && z && a) (sym h) ∙ work_scan
