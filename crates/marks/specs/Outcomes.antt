-- What a mark leaves, of the tables that the code changes. n is the number of pages. Assumes nothing.
use Rattle.std.specs.Prelude.{ℕ, ◌≡◌, List, length, set}
use Rattle.areas.specs.Areas.{areas}
use Rattle.areas.specs.Layout.{marked_at}
use Rattle.calls.specs.Marks.{set_last, mark_set}
use Rattle.log_ops.specs.Logs.{left_in}

-- v: the tables with the mark as the last one; i: the word of its number
pub marked_out : (s c a g k w : List ℕ) (n t m left : ℕ) (v : List ℕ) (i : ℕ) → left ≡ length (left_in g k w n t) → v ≡ set_last w n t m → i ≡ marked_at n t m →
    areas s c a g k (set v i left) ≡ mark_set (areas s c a g k w) n t m
unfolding mark_set
marked_out s c a g k w n t m left v i e h p = rw (e, h, p)
