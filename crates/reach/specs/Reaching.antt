-- Document 01, 'The book': what a state reaches. A state is a page area. Assumes nothing.
use Rattle.std.specs.Prelude.{ℕ, ◌<◌, ◌≤◌, ◌≡◌, Bool, true, not, ◌&&◌, List, eqb}
use Rattle.std.proofs.Common.{arith}
use Rattle.words.specs.Tests.{any}
use Rattle.pages.specs.Geometry.{is_ref, slot_words}
use Rattle.pages.specs.Objects.{occupied, word_of}

-- word f of object o is a reference to x in page area a
pub record Refers (a : List ℕ) (o f x : ℕ) : Type 0 where
  pub word : f < slot_words
  pub reference : is_ref a o f ≡ true
  pub target : word_of a o f ≡ x
  pub some : x ≡ 0 → ⊥

-- the same as a test: 'the references other than 0', x is one of object o's
abbrev pub refers_to : List ℕ → ℕ → ℕ → Bool
refers_to a o x = not (eqb x 0) && any (λ f. is_ref a o f && eqb (word_of a o f) x) slot_words

-- 'A state reaches the root and what a reached object's references name.'
pub data Reached (a : List ℕ) : ℕ → Type 0 where
  root : Reached a 1
  next : {o x : ℕ} (f : ℕ) → Reached a o → Refers a o f x → Reached a x

-- whatever the root reaches is occupied
abbrev pub Whole : List ℕ → Type 0
Whole a = (o : ℕ) → Reached a o → occupied a o ≡ true

-- law: number 0 is nobody, and is not reached
pub reached_some : {a : List ℕ} {o : ℕ} → Reached a o → 1 ≤ o
reached_some root = omega arith
reached_some (next f p r) = let k = r.some in omega arith
