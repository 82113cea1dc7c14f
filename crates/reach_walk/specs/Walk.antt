-- A walk over the references of a page area: what its marks and its queue stand for, and what a step does. Assumes nothing.
use Rattle.std.specs.Prelude.{ℕ, ◌+◌, ◌*◌, ◌-◌, ◌<◌, ◌≤◌, ◌≡◌, Bool, true, not, List, length, get_or, eqb, Option, Some, None}
use Rattle.words.specs.Tests.{count}
use Rattle.pages.specs.Geometry.{page_words, max_pages, object_count}
use Rattle.pages.specs.Objects.{occupied}
use Rattle.reach.specs.Reaching.{Refers, Reached}
use Rattle.reach_walk.specs.Wholeness.{Dangles}
use Rattle.reach_walk.specs.declared.Walk.{Walk}

-- a mark is a word other than 0
abbrev pub mark : Walk → ℕ → Bool
mark w i = not (eqb (get_or w.marks i 0) 0)

-- object x is marked
abbrev pub Marked : Walk → ℕ → Type 0
Marked w x = mark w (x - 1) ≡ true

-- object o stands in the queue
pub record Queued (w : Walk) (o : ℕ) : Type 0 where
  pub place : ℕ
  pub below : place < w.tail
  pub here : get_or w.queue place 0 ≡ o

-- what holds at each step of a walk over n pages that finds objects of which E holds: there is room for every object; the queue has as
-- many as are marked, E holds of each of them, and what is marked stands in it
pub record Consistent (E : ℕ → Type 0) (n : ℕ) (w : Walk) : Type 0 where
  pub mark_room : object_count n ≤ length w.marks
  pub queue_room : object_count n ≤ length w.queue
  pub counted : w.tail ≡ count (mark w) (object_count n)
  pub entry : (k : ℕ) → k < w.tail → E (get_or w.queue k 0)
  pub queued : (i : ℕ) → mark w i ≡ true → Queued w (i + 1)

-- what was found stays found, and where it was
pub record Grown (w v : Walk) : Type 0 where
  pub marks : (i : ℕ) → mark w i ≡ true → mark v i ≡ true
  pub places : (k : ℕ) → k < w.tail → get_or v.queue k 0 ≡ get_or w.queue k 0
  pub more : w.tail ≤ v.tail

-- an area of n pages, no more than a store may have
pub record PagesOf (a : List ℕ) (n : ℕ) : Type 0 where
  pub exact : length a ≡ page_words * n
  pub few : n ≤ max_pages

-- what this walk knows of an object that it found: it is reached, and it is there
pub record Entry (a : List ℕ) (o : ℕ) : Type 0 where
  pub reached : Reached a o
  pub there : occupied a o ≡ true

-- what word f of object o refers to is marked
abbrev pub Followed : List ℕ → Walk → ℕ → ℕ → Type 0
Followed a w o f = (x : ℕ) → Refers a o f x → Marked w x

-- the same of the words below k
abbrev pub FollowedTo : List ℕ → Walk → ℕ → ℕ → Type 0
FollowedTo a w o k = (f : ℕ) → f < k → Followed a w o f

-- what a step from walk w comes to: a walk v which has grown and of which G holds; or something dangles
abbrev pub Outcome : List ℕ → ℕ → Walk → Walk → (Walk → Type 0) → Option (Unit {0}) → Type 0
Outcome a n w v G (Some u) = Consistent (Entry a) n v × Grown w v × G v
Outcome a n w v G None = Dangles a
