-- Document 02, L1, as a search that can be run: one queue of chains. A chain that is taken from it gives the chains with one link more, to
-- objects that no chain leads to yet, the lower ones first. Assumes nothing.
use Rattle.std.specs.Prelude.{ℕ, zero, suc, Bool, false, not, ◌&&◌, ◌||◌, List, [], ◌∷◌, ◌++◌, length, get_or, eqb, ltb}
use Rattle.words.specs.Tests.{if}
use Rattle.pages.specs.Geometry.{object_count, root}
use Rattle.reach.specs.Reaching.{refers_to}

-- the object that a chain leads to
unfoldable pub last_of : List ℕ → ℕ
last_of [] = 0
last_of (u ∷ []) = u
last_of (u ∷ v ∷ c) = last_of (v ∷ c)

-- a chain of the queue leads to x
unfoldable pub found : List (List ℕ) → ℕ → Bool
found [] x = false
found (c ∷ q) x = eqb (last_of c) x || found q x

-- the objects up to k that pass a test, the lower ones first
unfoldable pub passing : (ℕ → Bool) → ℕ → List ℕ
passing f zero = []
passing f (suc k) = let l = passing f k in if (f (suc k)) (l ++ (suc k ∷ [])) l

-- chain c with one link more, to each object of a list
unfoldable pub extended : List ℕ → List ℕ → List (List ℕ)
extended c [] = []
extended c (x ∷ l) = (c ++ (x ∷ [])) ∷ extended c l

-- the queue behind which come the chains that chain c gives, in a page area of n pages
unfoldable pub followed : List ℕ → ℕ → List (List ℕ) → List ℕ → List (List ℕ)
followed a n q c = q ++ extended c (passing (λ x. refers_to a (last_of c) x && not (found q x)) (object_count n))

-- the queue, once its first h chains are taken; at first it has the root's chain
unfoldable pub searched : List ℕ → ℕ → ℕ → List (List ℕ)
searched a n zero = (root ∷ []) ∷ []
searched a n (suc h) = let q = searched a n h in let more = followed a n q (get_or q h []) in if (ltb h (length q)) more q

-- the first chain of a queue that leads to o; [] where none does
unfoldable pub chain_to : List (List ℕ) → ℕ → List ℕ
chain_to [] o = []
chain_to (c ∷ q) o = let rest = chain_to q o in if (eqb (last_of c) o) c rest

-- 'show a chain .. or none', which is []: no queue has more chains than there are objects
abbrev pub chain_in : List ℕ → ℕ → ℕ → List ℕ
chain_in a n o = chain_to (searched a n (object_count n)) o
