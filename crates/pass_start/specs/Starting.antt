-- The colours as a pass starts, one after the other, and its start. n is the number of pages. Assumes nothing.
use Rattle.std.specs.Prelude.{ℕ, ◌+◌, ◌<◌, ◌≡◌, Bool, not, ◌&&◌, ◌||◌, set, eqb}
use Rattle.std.proofs.Math.Path.{refl, ap}
use Rattle.std.proofs.Common.{◌∙◌}
use mathlib.Core.List.{List}
use native.Mathlib.Omega.{arith}
use Rattle.words.specs.Tests.{if}
use Rattle.words.specs.Spans.{fill, fill_outside}
use Rattle.pages.specs.Geometry.{object_count, root}
use Rattle.page_laws.specs.Runs.{fill_turn}
use Rattle.areas.specs.Layout.{pruned_at, created_at, colour_at}
use Rattle.areas.specs.Tables.{at, flag, pass_first, may_mark, with_pass}
use Rattle.calls.specs.Transactions.{leaves}
use Rattle.calls.specs.Pass.{unflagged, pass_started, first_colour}

-- the first colour of object o as the code finds it: b, whether the pass may mark it, and i, where its PRT mask stands
pub first_by : (w : List ℕ) (n o i : ℕ) (b x : Bool) → b ≡ may_mark w n o → i ≡ pruned_at n o → b && (eqb o root || not (eqb (at w i) 0)) ≡ x
    → if x 1 0 ≡ first_colour w n o
first_by w n o i b x e place h = rw (← h, e, place)

-- the colours of the first k objects
unfoldable pub first_colours : List ℕ → ℕ → ℕ → List ℕ
first_colours w n k = fill (λ j. first_colour w n (j + 1)) w (colour_at n 1) k

module _ (w : List ℕ) (n : ℕ) where
  pub first_none : w ≡ first_colours w n 0
  unfolding first_colours fill
  first_none = refl

  -- the first colour reads no colour
  first_kept : (k : ℕ) (x : List ℕ) → x ≡ first_colours w n k → k < object_count n → first_colour x n (k + 1) ≡ first_colour w n (k + 1)
  unfolding first_colours
  first_kept k x h l =
      let kept : at x (pruned_at n (k + 1)) ≡ at w (pruned_at n (k + 1)) =
      ap (λ (y : List ℕ). at y (pruned_at n (k + 1))) h
      ∙ fill_outside (λ j. first_colour w n (j + 1)) w (colour_at n 1) k (pruned_at n (k + 1)) 0 (λ j m z. omega arith) in
      rw kept

  -- i: where the code finds the colour
  pub first_next : (k : ℕ) (x : List ℕ) (v i : ℕ) → x ≡ first_colours w n k → k < object_count n → v ≡ first_colour x n (k + 1) → i ≡ colour_at n (k + 1)
      → set x i v ≡ first_colours w n (k + 1)
  unfolding first_colours
  first_next k x v i h l e place =
      let at_k : i ≡ colour_at n 1 + k = omega arith in
      rw (e ∙ first_kept k x h l, at_k) (fill_turn (λ j. first_colour w n (j + 1)) w (colour_at n 1) k x h)

-- the start of a pass: the flags go, the colours, the pass record
all_coloured : (w : List ℕ) (n : ℕ) → with_pass (first_colours (unflagged w n) n (object_count n)) 1 (pass_first w n) 0 ≡ pass_started w n
unfolding pass_started first_colours
all_coloured w n = refl

-- i and j: where the code finds the tables
pub pass_started_law : (w u v x : List ℕ) (n i j first : ℕ) → first ≡ pass_first w n → i ≡ pruned_at n 1 → j ≡ created_at n 1 → u ≡ leaves flag w i (object_count n)
    → v ≡ leaves flag u j (object_count n) → x ≡ first_colours v n (object_count n) → with_pass x 1 first 0 ≡ pass_started w n
unfolding unflagged
pass_started_law w u v x n i j first from ei ej eu ev ex = rw (from, ex, ev, ej, eu, ei) (all_coloured w n)
