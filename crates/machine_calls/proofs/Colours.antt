-- The colours after an object turned grey, as the collector machine's: n is the number of pages. Assumes nothing.
use Prim.Native.Nat.{ℕ, zero, suc, ◌≤◌}
use native.Mathlib.Omega.{arith}
use mathlib.Core.Path.{◌≡◌, refl, sym, ap, ◌∙◌}
use mathlib.Core.Bool.{true, false, ◌&&◌}
use mathlib.Core.List.{List}
use lib.ListN.{length}
use lib.Seq.{get_or-set_same, get_or-set_other}
use lib.Dec.{eqb}
use borrow.Author.Tests.{eqb-true, eqb-false}
use Rattle.words.specs.Tests.{by_bool}
use Rattle.pages.specs.Geometry.{is_object, object_count}
use Rattle.areas.specs.Layout.{colour_at, table_words}
use Rattle.areas.specs.Tables as Tables
use Rattle.areas.specs.Tables.{at, coloured, is_white, may_mark}
use Rattle.collector.specs.State.{grey, white_to_grey, greyed}
use Rattle.page_laws.specs.Places.{object_range}
use Rattle.machine_calls.specs.Tables.{colour_of, colour_at_object}
use Rattle.machine_calls.proofs.Frames.{Beside, beside_self, beside_set, wider, is_object_law}

pub grey_beside : (w : List ℕ) (n x : ℕ) → 1 ≤ x → x ≤ object_count n → Beside (colour_at n 1) (table_words n) w (Tables.greyed w n x)
unfolding Tables.greyed
grey_beside w n x low top = by_bool (may_mark w n x && is_white w n x)
    (λ e. rw e (wider (beside_set w (colour_at n x) 1) (omega arith) (omega arith)))
    (λ e. rw e (beside_self _ _ w))

whitened : (m : ℕ) → eqb m 0 ≡ true → white_to_grey (colour_of m) ≡ grey
whitened m e = rw (eqb-true m 0 e) refl

coloured_on : (m : ℕ) → eqb m 0 ≡ false → white_to_grey (colour_of m) ≡ colour_of m
coloured_on zero e = absurd (eqb-false 0 0 e refl)
coloured_on (suc zero) e = refl
coloured_on (suc (suc m)) e = refl

module _ (w : List ℕ) (n x : ℕ) (low : 1 ≤ x) (top : x ≤ object_count n) (len : table_words n ≤ length w) where
  elsewhere : (y : ℕ) → is_object n y ≡ true → eqb y x ≡ false → at (coloured w n x 1) (colour_at n y) ≡ at w (colour_at n y)
  elsewhere y l e = get_or-set_other w (colour_at n x) (colour_at n y) 1 0 (λ z. eqb-false y x e (let k = (object_range n y l).0 in omega arith))

  pub grey_colour : (y : ℕ) → colour_at_object (Tables.greyed w n x) n y ≡ greyed (eqb y x) (colour_at_object w n y)
  unfolding Tables.greyed colour_at_object greyed
  grey_colour y = by_bool (eqb y x)
      (λ q. rw (q, eqb-true y x q, is_object_law n x low top) (by_bool (is_white w n x)
      (λ e. rw e (ap colour_of (get_or-set_same w (colour_at n x) 1 0 (omega arith)) ∙ sym (whitened (at w (colour_at n x)) e)))
      (λ e. rw e (sym (coloured_on (at w (colour_at n x)) e)))))
      (λ q. rw (q, is_object_law n x low top) (by_bool (is_white w n x)
      (λ e. rw e (by_bool (is_object n y) (λ l. rw (l, elsewhere y l q)) (λ l. rw l)))
      (λ e. rw e)))
