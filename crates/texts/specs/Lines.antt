-- Document 01, the bench program: "lines end in CRLF, which the last input line may lack".
use Rattle.std.specs.Prelude.{ℕ, ◌&&◌, cond as if, List, [], ◌∷◌, eqb}
use Rattle.texts.specs.Text.{cr, lf}

-- b belongs to the first of these lines or fields; without one it is one by itself
abbrev pub onto : ℕ → List (List ℕ) → List (List ℕ)
onto b [] = (b ∷ []) ∷ []
onto b (s ∷ ss) = (b ∷ s) ∷ ss

-- the input's lines, without their ends: "lines end in CRLF, which the last input line may lack". A CR or an LF alone belongs to its line;
-- an end at the input's end starts no further line
unfoldable pub lines_of : List ℕ → List (List ℕ)
lines_of [] = []
lines_of (b ∷ []) = (b ∷ []) ∷ []
lines_of (b ∷ c ∷ bs) = if (eqb b cr && eqb c lf) ([] ∷ lines_of bs) (onto b (lines_of (c ∷ bs)))
