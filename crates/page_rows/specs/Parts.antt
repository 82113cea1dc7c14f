-- A part of a list, as the library's slices write it, and the runs of words that the contracts name. Assumes nothing.
use Rattle.std.specs.Prelude.{ℕ, zero, suc, ◌+◌, ◌≤◌, ◌≡◌, List, length, replicate, take, drop}
use Rattle.std.proofs.Common.{sym, ap, ◌∙◌, arith}
use Rattle.std.proofs.lemmas.List.{length-replicate, get_or-replicate}
use Rattle.std.proofs.lemmas.Slice.{put_mid-paste}
use Rattle.std.proofs.Math.Seq.{paste, paste-zero, paste-suc, drop-drop}
use borrow.Rule.Slice.PartMut.{put_mid}
use mathlib.Core.List.{◌++◌, append_assoc}
use Rattle.words.specs.Spans.{fill, copied}

-- a part copied from the same place of another list
pub copied_part : (from to : List ℕ) (a n k : ℕ) (ys : List ℕ) → k ≡ n → ys ≡ take k (drop a from) → put_mid a k to ys ≡ copied from to a n
unfolding copied
copied_part from to a n k ys h e = rw (e, h) (ap (λ (r : List ℕ). take a to ++ (take n (drop a from) ++ r)) (drop-drop n a to) ∙ sym (append_assoc (take a to) (take n (drop a from)) (drop (a + n) to)))

-- a part that becomes zeros
paste_zeros : (w : List ℕ) (a n k : ℕ) → k ≤ n → a + n ≤ length w → paste w a (replicate n 0) k ≡ fill (λ i. 0) w a k
unfolding fill
paste_zeros w a n zero h l = sym (paste-zero w a (replicate n 0))
paste_zeros w a n (suc k) h l = let e : length (replicate {A = ℕ} n 0) ≡ n = length-replicate n 0 in
    sym (paste-suc w a (replicate n 0) k 0 (omega arith) (omega arith))
    ∙ rw (paste_zeros w a n k (omega arith) l, get_or-replicate {A = ℕ} n k 0 0 (omega arith))

pub zeros_part : (w : List ℕ) (a n k : ℕ) (ys : List ℕ) → k ≡ n → a + n ≤ length w → ys ≡ replicate n 0 → put_mid a k w ys ≡ fill (λ i. 0) w a n
zeros_part w a n k ys h l e = put_mid-paste a k w ys (replicate n 0) n e (sym h) (sym (length-replicate n 0)) ∙ paste_zeros w a n n (omega arith) l
