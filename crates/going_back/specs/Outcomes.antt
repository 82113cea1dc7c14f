-- What going back leaves, of the lists that the code changes: the marks set later dropped one by one, and the areas. n is the number of
-- pages. Assumes nothing.
use Rattle.std.specs.Prelude.{ℕ, ◌+◌, ◌-◌, ◌≡◌, refl, List, [], ◌∷◌, length, get_or, set, take, ltb}
use Rattle.std.proofs.Common.{sym, ap, ◌∙◌, length-take-le, add-one, arith}
use Rattle.words.specs.Tests.{if}
use Rattle.records.specs.Records.{record_at, recorded}
use Rattle.records.specs.Effects.{effect, undoing}
use Rattle.areas.specs.Areas.{Areas, areas, with_work, appended}
use Rattle.areas.specs.Layout.{mark_count, marked_at, order_at}
use Rattle.areas.specs.Tables.{at}
use Rattle.calls.specs.Marks.{order_of, since_mark, taken_back, went_back, dropped, back_to}
use Rattle.log_ops.specs.Logs.{left_in}

-- one mark dropped or kept
pub dropped_next : (w : List ℕ) (n t a j : ℕ) (x y : List ℕ) → x ≡ dropped w n t a j →
    y ≡ if (ltb a (order_of x n t j)) (set (set x (marked_at n t j) 0) (order_at n t j) 0) x → y ≡ dropped w n t a (j + 1)
unfolding dropped
dropped_next w n t a j x y h e =
    e ∙ ap (λ (v : List ℕ). if (ltb a (order_of v n t j)) (set (set v (marked_at n t j) 0) (order_at n t j) 0) v) h ∙ ap (dropped w n t a) (sym (add-one j))

-- the pages, the log, the counts and the tables do not depend on the other areas
went_other : (g l s c a h k w : List ℕ) (n t : ℕ) → went_back g l (areas s c a h k w) n t ≡ (let z = went_back g l (areas [] [] a h k w) n t in areas s c z.received z.log z.counts z.work)
unfolding went_back appended
went_other g [] s c a h k w n t = refl
went_other g (i ∷ is) s c a h k w n t =
    let r = record_at g i in
    went_other g is s c (effect a (undoing r)) (recorded h (get_or k 0 0) (undoing r)) (set k 0 (get_or k 0 0 + 1)) (taken_back w n t (get_or k 0 0) r) n t

-- as many of the newest as there are
take_counted : (l : List ℕ) (m : ℕ) → take (length (take (length l - m) l)) l ≡ take (length l - m) l
take_counted l m = rw (length-take-le (length l - m) l (omega arith))

-- the marks set after mark m dropped, in areas b that the undoing records leave
abbrev dropped_in : List ℕ → List ℕ → ℕ → ℕ → ℕ → Areas → Areas
dropped_in s c n t m b = areas s c b.received b.log b.counts (dropped b.work n t (order_of b.work n t m) mark_count)

-- x: how many changes since the mark the code found; i: the word of the mark's place
pub back_out : (s c a g k w : List ℕ) (n t m x : ℕ) (a' g' k' v : List ℕ) (i : ℕ) (w' : List ℕ) → x ≡ length (since_mark (areas [] [] [] g k w) n t m) →
    areas [] [] a' g' k' v ≡ went_back g (take x (left_in g k w n t)) (areas [] [] a g k w) n t → i ≡ order_at n t m → w' ≡ dropped v n t (at v i) mark_count →
    areas s c a' g' k' w' ≡ back_to (areas s c a g k w) n t m
unfolding back_to
back_out s c a g k w n t m x a' g' k' v i w' e h p d =
    rw (d, p) (ap (dropped_in s c n t m) (h ∙ ap (λ (l : List ℕ). went_back g l (areas [] [] a g k w) n t) (ap (λ (y : ℕ). take y (left_in g k w n t)) e ∙ take_counted (left_in g k w n t) (at w (marked_at n t m)))))
    ∙ ap (λ (z : Areas). with_work z (dropped z.work n t (order_of z.work n t m) mark_count)) (sym (went_other g (since_mark (areas [] [] [] g k w) n t m) s c a g k w n t))
