-- Runs of words that are pasted or copied: the turns of the loop that does it, and the words after it. Assumes nothing.
use Rattle.std.specs.Prelude.{ℕ, zero, suc, ◌+◌, ◌<◌, ◌≤◌, ◌≡◌, List, length, get_or, set, drop}
use Rattle.std.proofs.Common.{sym, ap, ◌∙◌, length-drop, get_or-set_same, get_or-set_other, add-one, arith}
use Rattle.std.proofs.Math.Seq.{paste, paste-zero, paste-suc, length-paste, get_or-drop}
use Rattle.std.proofs.Math.Decide.{ℕ_discrete}
use Rattle.words.specs.Spans.{fill, fill_next, copied}

module _ (d : List ℕ) (at : ℕ) (s : List ℕ) where
  pub paste_next : (j : ℕ) → at + j < length d → j < length s → set (paste d at s j) (at + j) (get_or s j 0) ≡ paste d at s (j + 1)
  paste_next j hd hs = rw add-one (paste-suc d at s j 0 hd hs)

  -- a word outside the run, and one inside it
  pub paste_outside : (n i : ℕ) → at + n ≤ length d → n ≤ length s → ((k : ℕ) → k < n → i ≡ at + k → ⊥) → get_or (paste d at s n) i 0 ≡ get_or d i 0
  paste_outside zero i hd hs h = ap (λ (l : List ℕ). get_or l i 0) (sym (paste-zero d at s))
  paste_outside (suc n) i hd hs h = ap (λ (l : List ℕ). get_or l i 0) (sym (paste-suc d at s n 0 (omega arith) (omega arith)))
      ∙ get_or-set_other (paste d at s n) (at + n) i (get_or s n 0) 0 (h n (omega arith)) ∙ paste_outside n i (omega arith) (omega arith) (λ k l. h k (omega arith))

  pub paste_inside : (n j : ℕ) → at + n ≤ length d → n ≤ length s → j < n → get_or (paste d at s n) (at + j) 0 ≡ get_or s j 0
  paste_inside zero j hd hs l = absurd (omega arith)
  paste_inside (suc n) j hd hs l = ap (λ (x : List ℕ). get_or x (at + j) 0) (sym (paste-suc d at s n 0 (omega arith) (omega arith))) ∙ elim (ℕ_discrete j n) [
    | yes q ↦ rw q (get_or-set_same (paste d at s n) (at + n) (get_or s n 0) 0 (let e = length-paste d at s n (omega arith) (omega arith) in omega arith))
    | no q ↦ get_or-set_other (paste d at s n) (at + n) (at + j) (get_or s n 0) 0 (λ z. q (omega arith)) ∙ paste_inside n j (omega arith) (omega arith) (omega arith)
  ]

pub copied_none : (from to : List ℕ) (a : ℕ) → to ≡ copied from to a 0
unfolding copied
copied_none from to a = paste-zero to a (drop a from)

pub copied_next : (from to : List ℕ) (a k : ℕ) (x : List ℕ) → x ≡ copied from to a k → a + k < length from → a + k < length to
    → set x (a + k) (get_or from (a + k) 0) ≡ copied from to a (k + 1)
unfolding copied
copied_next from to a k x h hf ht = let e = length-drop a from in
    ap (λ (l : List ℕ). set l (a + k) (get_or from (a + k) 0)) h
    ∙ ap (λ (v : ℕ). set (paste to a (drop a from) k) (a + k) v) (sym (get_or-drop a from k 0)) ∙ paste_next to a (drop a from) k ht (omega arith)

pub fill_turn : (g : ℕ → ℕ) (w : List ℕ) (a k : ℕ) (x : List ℕ) → x ≡ fill g w a k → set x (a + k) (g k) ≡ fill g w a (k + 1)
fill_turn g w a k x h = ap (λ (l : List ℕ). set l (a + k) (g k)) h ∙ fill_next g w a k

module _ (from to : List ℕ) (a n : ℕ) (hf : a + n ≤ length from) (ht : a + n ≤ length to) where
  dropped : n ≤ length (drop a from)
  dropped = let e = length-drop a from in omega arith

  pub length_copied : length (copied from to a n) ≡ length to
  unfolding copied
  length_copied = length-paste to a (drop a from) n ht dropped

  pub copied_outside : (i : ℕ) → ((k : ℕ) → k < n → i ≡ a + k → ⊥) → get_or (copied from to a n) i 0 ≡ get_or to i 0
  unfolding copied
  copied_outside i h = paste_outside to a (drop a from) n i ht dropped h

  pub copied_inside : (j : ℕ) → j < n → get_or (copied from to a n) (a + j) 0 ≡ get_or from (a + j) 0
  unfolding copied
  copied_inside j l = paste_inside to a (drop a from) n j ht dropped l ∙ get_or-drop a from j 0
