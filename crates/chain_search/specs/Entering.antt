-- How an object enters the queue. Assumes nothing.
use Rattle.std.specs.Prelude.{ℕ, suc, ◌+◌, ◌-◌, ◌<◌, ◌≤◌, ◌≡◌, List, length, get_or, set}

-- queue r is queue q with x between those from first on that are lower and those that are not, as far as tail
pub record Inserted (q : List ℕ) (first tail x : ℕ) (r : List ℕ) : Type 0 where
  pub size : length r ≡ length q
  pub place : ℕ
  pub low : first ≤ place
  pub top : place ≤ tail
  pub before : (j : ℕ) → j < place → get_or r j 0 ≡ get_or q j 0
  pub here : get_or r place 0 ≡ x
  pub after : (j : ℕ) → place ≤ j → j < tail → get_or r (suc j) 0 ≡ get_or q j 0
  pub higher : (j : ℕ) → place ≤ j → j < tail → x ≤ get_or q j 0
  pub lower : first < place → get_or q (place - 1) 0 < x

-- u names x: it was found before, and nothing changes; or u is its finder, and it enters
pub data Visited (from queue : List ℕ) (first tail u x : ℕ) (from' queue' : List ℕ) : ℕ → Type 0 where
  known : (get_or from (x - 1) 0 ≡ 0 → ⊥) → from' ≡ from → queue' ≡ queue → Visited from queue first tail u x from' queue' tail
  entered : get_or from (x - 1) 0 ≡ 0 → from' ≡ set from (x - 1) u → Inserted queue first tail x queue' → Visited from queue first tail u x from' queue' (tail + 1)
