-- An area written word by word, from its first. Assumes nothing.
use Rattle.std.specs.Prelude.{ℕ, ◌+◌, ◌<◌, ◌≤◌, ◌≡◌, List, length, get_or, set, take, drop}
use Rattle.std.proofs.Common.{sym, ◌∙◌, ext_get_or, get_or-set_same, get_or-set_other, length-drop, length-take-le, arith}
use Rattle.std.proofs.lemmas.List.{get_or-take, get_or-drop}
use Rattle.std.proofs.Math.Decide.{ℕ_discrete}

-- the first i words of b are those of f: one more of them written
abbrev pub FilledTo : List ℕ → (ℕ → ℕ) → ℕ → Type 0
FilledTo b f i = (k : ℕ) → k < i → get_or b k 0 ≡ f k

pub filled_next : (b : List ℕ) (f : ℕ → ℕ) (n i : ℕ) → length b ≡ n → i < n → FilledTo b f i → FilledTo (set b i (f i)) f (i + 1)
filled_next b f n i e l h k m = elim (ℕ_discrete k i) [
  | yes q ↦ rw q (get_or-set_same b i (f i) 0 (omega arith))
  | no q ↦ get_or-set_other b i k (f i) 0 q ∙ h k (omega arith)
]

-- a list filled to its end: from a list, and from n words of one
pub filled_same : (b a : List ℕ) (i : ℕ) → length b ≡ length a → length a ≤ i → FilledTo b (λ k. get_or a k 0) i → b ≡ a
filled_same b a i e u h = ext_get_or 0 b a e (λ k l. h k (omega arith))

pub filled_part : (b from : List ℕ) (a n k i : ℕ) → length b ≡ n → k ≡ n → a + n ≤ length from → n ≤ i → FilledTo b (λ j. get_or from (a + j) 0) i → b ≡ take k (drop a from)
filled_part b from a n k i e s room u h =
    let d = length-drop a from in
    let l : length (take k (drop a from)) ≡ k = length-take-le k (drop a from) (omega arith) in
    ext_get_or 0 b (take k (drop a from)) (e ∙ sym (l ∙ s)) (λ j m. h j (omega arith) ∙ sym (get_or-take k (drop a from) j 0 (omega arith) ∙ get_or-drop a from j 0))
