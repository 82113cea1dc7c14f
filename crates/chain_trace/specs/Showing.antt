-- A chain into its buffer. Assumes nothing.
use Rattle.std.specs.Prelude.{ℕ, ◌-◌, List, get_or}
use Rattle.words.specs.Spans.{fill}
use Rattle.calls.specs.Chains.{chain_words}

-- the first d words of the queue, the last one first
abbrev pub shown_from : List ℕ → ℕ → List ℕ → List ℕ
shown_from queue d b = fill (λ i. get_or queue (d - 1 - i) 0) b 0 d

-- zeros from d on
abbrev pub cleared_from : ℕ → List ℕ → List ℕ
cleared_from d b = fill (λ i. 0) b d (chain_words - d)
