-- The order of a transaction's marks, as a mark that is set changes it: later ones move up, and it becomes the last. n is the number of
-- pages. Assumes nothing.
use Rattle.std.specs.Prelude.{ℕ, ◌+◌, ◌≤◌, ◌≡◌, not, ◌&&◌, List, set, eqb}
use Rattle.std.proofs.Common.{sym, ap, ◌∙◌, add-one, arith}
use Rattle.words.specs.Tests.{if, count, count_same}
use Rattle.words.specs.Counts.{count_most}
use Rattle.words.specs.Spans.{over, over_outside}
use Rattle.areas.specs.Layout.{mark_count, order_at}
use Rattle.areas.specs.Tables.{at}
use Rattle.calls.specs.Marks.{others_set, moved_up, set_last}
use Rattle.store_ops.specs.Tables.{over_turn}

-- how many of the first k marks but m are set, their places standing from word i
unfoldable pub set_but : List ℕ → ℕ → ℕ → ℕ → ℕ
set_but w i m k = count (λ j. not (eqb j m) && not (eqb (at w (i + j)) 0)) k

-- one more mark moved up and counted: x are the tables before it, b the word that the code read there
module _ (w : List ℕ) (i m a j : ℕ) (x : List ℕ) (b : ℕ) (moved : x ≡ over (moved_up a) w i j) (read : b ≡ at x (i + j)) where
  pub places_next : (v : ℕ) → v ≡ moved_up a b → set x (i + j) v ≡ over (moved_up a) w i (j + 1)
  places_next v e = over_turn (moved_up a) w i j x v moved (e ∙ ap (moved_up a) read)

  unmoved : b ≡ at w (i + j)
  unmoved = read ∙ ap (λ (l : List ℕ). at l (i + j)) moved ∙ over_outside (moved_up a) w i j (i + j) 0 (λ k l z. omega arith)

  pub others_next : (o p : ℕ) → o ≡ set_but w i m j → p ≡ o + if (not (eqb j m) && not (eqb b 0)) 1 0 → p ≡ set_but w i m (j + 1)
  unfolding set_but count
  others_next o p h e = e ∙ rw (h, unmoved) (ap (set_but w i m) (sym (add-one j)))

pub others_few : (w : List ℕ) (i m k o : ℕ) → o ≡ set_but w i m k → k ≤ mark_count → o ≤ mark_count
unfolding set_but
others_few w i m k o e l = let h : set_but w i m k ≤ k = count_most _ k in omega arith

-- the mark at place i of the tables w becomes the last, x being the tables that are moved up
pub last_set : (w : List ℕ) (n t m f i o : ℕ) (x : List ℕ) → f ≡ order_at n t 0 → i ≡ f + m →
    x ≡ over (moved_up (at w i)) w f mark_count → o ≡ set_but w f m mark_count → set x i (o + 1) ≡ set_last w n t m
unfolding set_last others_set set_but
last_set w n t m f i o x ef ei ex eo =
    let d : i ≡ order_at n t m = omega arith in
    let h : set_but w f m mark_count ≡ others_set w n t m = count_same _ _ mark_count (λ j l. ap (λ (k : ℕ). not (eqb j m) && not (eqb (at w k) 0)) (omega arith)) in
    ap (λ (y : ℕ). set x i (y + 1)) (eo ∙ h) ∙ rw (ex, d, ef)
