-- Document 02, L1: the chain of references that keeps an object, and which one is shown. Assumes nothing.
use Rattle.std.specs.Prelude.{ℕ, ◌<◌, ◌≡◌, ◌⊎◌, List, [], ◌∷◌, ◌++◌, length}
use Rattle.pages.specs.Geometry as geometry
use Rattle.reach.specs.Reaching.{Refers}

-- 'a chain of references .. from the root to it', of page area a, its objects from the root on: 'The root's chain is the root'; a chain to
-- u, then an object that a reference of u names
pub data Chain (a : List ℕ) : ℕ → List ℕ → Type 0 where
  root : Chain a geometry.root (geometry.root ∷ [])
  link : {u x : ℕ} {c : List ℕ} (f : ℕ) → Chain a u c → Refers a u f x → Chain a x (c ++ (x ∷ []))

-- 'the lower object at the first difference, read from the root'
abbrev pub Lower : List ℕ → List ℕ → Type 0
Lower [] d = ⊥
Lower (v ∷ c) [] = ⊥
Lower (v ∷ c) (w ∷ d) = (v < w) ⊎ ((v ≡ w) × Lower c d)

-- 'with the fewest links'; 'Of equally short chains, .. the one with the lower object at the first difference'
abbrev pub Ahead : List ℕ → List ℕ → Type 0
Ahead c d = (length c < length d) ⊎ ((length c ≡ length d) × Lower c d)

-- the chain to o that is shown: ahead of every other one
pub record Least (a : List ℕ) (o : ℕ) (c : List ℕ) : Type 0 where
  pub chain : Chain a o c
  pub ahead : (d : List ℕ) → Chain a o d → (d ≡ c) ⊎ Ahead c d
