-- A walk that follows references: what was found stays found, and one word or one object more is followed. Assumes nothing.
use Prim.Native.Nat.{ℕ, ◌+◌, ◌-◌, ◌<◌}
use native.Mathlib.Omega.{arith}
use native.Mathlib.Decide.{ℕ_discrete}
use mathlib.Core.Path.{◌≡◌, refl, sym, ◌∙◌}
use mathlib.Core.Bool.{false}
use mathlib.Core.List.{List}
use lib.ListN.{get_or}
use Rattle.words.specs.Tests.{clash}
use Rattle.pages.specs.Geometry.{slot_words, is_ref}
use Rattle.pages.specs.Objects.{word_of}
use Rattle.reach_walk.specs.declared.Walk.{Walk}
use Rattle.reach_walk.specs.Walk.{Marked, Consistent, Grown, Followed, FollowedTo}

-- what was found stays found
pub grown_none : (w : Walk) → Grown w w
grown_none w = record { marks = λ i h. h; places = λ k l. refl; more = omega arith }

pub grown_then : {u v w : Walk} → Grown u v → Grown v w → Grown u w
grown_then g h = record {
  marks = λ i m. h.marks i (g.marks i m);
  places = λ k l. h.places k (let b = g.more in omega arith) ∙ g.places k l;
  more = let b = g.more in let d = h.more in omega arith;
}

-- a word that is no reference, or names nothing, leaves the walk as it is; one whose target is marked is followed
module _ {E : ℕ → Type 0} {n : ℕ} {w : Walk} (r : Consistent E n w) (a : List ℕ) (o f : ℕ) where
  pub past_data : is_ref a o f ≡ false → Consistent E n w × Grown w w × Followed a w o f
  past_data e = (r, grown_none w, λ x h. clash h.reference e)

  pub past_nothing : word_of a o f ≡ 0 → Consistent E n w × Grown w w × Followed a w o f
  past_nothing e = (r, grown_none w, λ x h. absurd (h.some (sym h.target ∙ e)))

pub followed_marked : (a : List ℕ) (w : Walk) (o f x : ℕ) → word_of a o f ≡ x → Marked w x → Followed a w o f
followed_marked a w o f x e m y h = rw (sym h.target ∙ e) m

-- one more word of an object is followed
pub followed_next : {a : List ℕ} {v w : Walk} {o f : ℕ} → Grown v w → FollowedTo a v o f → Followed a w o f → FollowedTo a w o (f + 1)
followed_next {f} g h e k l = elim (ℕ_discrete k f) [ yes z ↦ rw z e | no z ↦ (λ x r. g.marks (x - 1) (h k (omega arith) x r)) ]

-- the objects of the queue before head are followed
abbrev pub DoneTo : List ℕ → Walk → ℕ → Type 0
DoneTo a w h = (k : ℕ) → k < h → FollowedTo a w (get_or w.queue k 0) slot_words

-- one more of them
pub done_next : (a : List ℕ) (v w : Walk) (h o : ℕ) → Grown v w → h < v.tail → o ≡ get_or v.queue h 0 → DoneTo a v h → FollowedTo a w o slot_words → DoneTo a w (h + 1)
done_next a v w h o g l e d n k b = elim (ℕ_discrete k h) [
  | yes z ↦ rw (z, g.places h l, ← e) n
  | no z ↦ (let c : k < h = omega arith in rw (g.places k (omega arith)) (λ f m x r. g.marks (x - 1) (d k c f m x r)))
]
