-- What the finders and the queue of objects stand for: the queue of chains of the definition. Assumes nothing.
use Rattle.std.specs.Prelude.{ℕ, ◌+◌, ◌*◌, ◌-◌, ◌<◌, ◌≤◌, ◌≡◌, Bool, true, false, not, ◌&&◌, ◌||◌, List, [], ◌∷◌, ◌++◌, length, get_or, eqb}
use Rattle.words.specs.Tests.{any}
use Rattle.pages.specs.Geometry.{page_words, max_pages, object_count, is_ref}
use Rattle.pages.specs.Objects.{word_of}
use Rattle.pages.specs.Soundness.{area_sound}
use Rattle.reach.specs.Search.{last_of, found, passing, searched}
use Rattle.chain_laws.specs.Links.{Object}

-- the area that is searched
pub record SearchedArea (a : List ℕ) (n : ℕ) : Type 0 where
  pub exact : length a ≡ page_words * n
  pub some : 1 ≤ n
  pub few : n ≤ max_pages
  pub sound : area_sound a n ≡ true

-- object x has a finder
abbrev pub has_finder : List ℕ → ℕ → Bool
has_finder from x = not (eqb (get_or from (x - 1) 0) 0)

-- chain i of the queue is that of its object's finder, which stands before it, and one link
pub record Finder (q : List (List ℕ)) (from : List ℕ) (i : ℕ) : Type 0 where
  pub place : ℕ
  pub before : place < i
  pub finder : get_or from (last_of (get_or q i []) - 1) 0 ≡ last_of (get_or q place [])
  pub here : get_or q i [] ≡ get_or q place [] ++ (last_of (get_or q i []) ∷ [])

-- the finders and the queue, which ends at tail, while the object u of one of the chains of q is taken: the chains' objects, then those that
-- pass the test, which u has found
pub record Between (n : ℕ) (q : List (List ℕ)) (u : ℕ) (f : ℕ → Bool) (from queue : List ℕ) (tail : ℕ) : Type 0 where
  pub from_room : object_count max_pages ≤ length from
  pub queue_room : object_count max_pages ≤ length queue
  pub size : tail ≡ length q + length (passing f (object_count n))
  pub old : (i : ℕ) → i < length q → get_or queue i 0 ≡ last_of (get_or q i [])
  pub new : (i : ℕ) → i < length (passing f (object_count n)) → get_or queue (length q + i) 0 ≡ get_or (passing f (object_count n)) i 0
  pub marks : (x : ℕ) → Object n x → has_finder from x ≡ found q x || f x
  pub finders : (i : ℕ) → 0 < i → i < length q → Finder q from i
  pub found_here : (x : ℕ) → Object n x → f x ≡ true → get_or from (x - 1) 0 ≡ u

-- x is named by one of the first k words of object u
abbrev pub named_in : List ℕ → ℕ → ℕ → ℕ → Bool
named_in a u k x = not (eqb x 0) && any (λ f. is_ref a u f && eqb (word_of a u f) x) k

-- the object u at head is taken, and its words below f are followed
pub record Taking (a : List ℕ) (n head first u f : ℕ) (from queue : List ℕ) (tail : ℕ) : Type 0 where
  pub taken : head < length (searched a n head)
  pub start : first ≡ length (searched a n head)
  pub object : u ≡ last_of (get_or (searched a n head) head [])
  pub between : Between n (searched a n head) u (λ x. named_in a u f x && not (found (searched a n head) x)) from queue tail

-- the objects before head were taken, and none is
abbrev pub Shows : List ℕ → ℕ → ℕ → List ℕ → List ℕ → ℕ → Type 0
Shows a n head from queue tail = Between n (searched a n head) 0 (λ x. false) from queue tail
