-- What a search leaves of the chain of an object: finders that lead back along it. Assumes nothing.
use Rattle.std.specs.Prelude.{ℕ, suc, ◌-◌, ◌<◌, ◌≤◌, ◌≡◌, Bool, true, false, List, [], length, get_or}
use Rattle.pages.specs.Geometry.{object_count, max_pages, root}
use Rattle.reach.specs.Search.{chain_in}

-- chain c leads from the root to o, and each of its objects is the finder of the next one; the root stands at its beginning only
pub record Back (from : List ℕ) (o : ℕ) (c : List ℕ) : Type 0 where
  pub some : 0 < length c
  pub few : length c ≤ object_count max_pages
  pub first : get_or c 0 0 ≡ root
  pub last : get_or c (length c - 1) 0 ≡ o
  pub low : (i : ℕ) → i < length c → 1 ≤ get_or c i 0
  pub top : (i : ℕ) → i < length c → get_or c i 0 ≤ object_count max_pages
  pub finder : (i : ℕ) → suc i < length c → get_or from (get_or c (suc i) 0 - 1) 0 ≡ get_or c i 0
  pub once : (i : ℕ) → 0 < i → i < length c → get_or c i 0 ≡ root → ⊥

-- the search for o ends: it was found, and the finders lead back along its chain; or it has none
abbrev pub Ended : List ℕ → ℕ → ℕ → List ℕ → Bool → Type 0
Ended a n o from true = Back from o (chain_in a n o)
Ended a n o from false = chain_in a n o ≡ []

-- by the answer
pub ended_so : (a : List ℕ) (n o : ℕ) (from : List ℕ) (b : Bool) → Ended a n o from b → b ≡ true → Back from o (chain_in a n o)
ended_so a n o from b p e = rw e at p

pub ended_not : (a : List ℕ) (n o : ℕ) (from : List ℕ) (b : Bool) → Ended a n o from b → b ≡ false → chain_in a n o ≡ []
ended_not a n o from b p e = rw e at p
