-- Objects, their tags and what a map of objects reaches. This machine serves the proof of demand 3; the claim of demand 3 itself
-- never mentions it. Assumes nothing.
use Rattle.std.specs.Prelude.{ℕ, ◌-◌, ◌/◌, ◌≤◌, ◌≡◌, Bool, true, false, not, cond, eqb, ltb}
use Rattle.collector.specs.Bits.{◌and◌, anyb}

-- an object: whether its slot is occupied, and its eight words
pub record Obj : Type 0 where
  pub occ : Bool
  pub word : ℕ → ℕ

-- which lines an object is of: the line that last wrote each word, and the one that last created or freed the object
pub record Tag : Type 0 where
  pub time : ℕ → ℕ
  pub born : ℕ

unfoldable pub blank : Obj
blank = record { occ = false; word = λ f. 0 }

unfoldable pub fresh : Obj
fresh = record { occ = true; word = λ f. 0 }

unfoldable pub put : Obj → ℕ → ℕ → Obj
put b f v = record { occ = b.occ; word = λ g. cond (eqb g f) v (b.word g) }

-- the tags of an object that line m creates or frees, and of one whose word f line m writes
unfoldable pub born_at : ℕ → Tag
born_at m = record { time = λ f. m; born = m }

unfoldable pub stamp : Tag → ℕ → ℕ → Tag
stamp a f m = record { time = λ g. cond (eqb g f) m (a.time g); born = a.born }

unfoldable pub fields : ℕ
fields = 8

-- word f of the object is a reference
unfoldable pub is_ref : Obj → ℕ → Bool
is_ref b f = ltb f 4

-- an occupied object has a reference to x
unfoldable pub points : Obj → ℕ → Bool
points b x = b.occ and not (eqb x 0) and anyb fields (λ f. is_ref b f and eqb (b.word f) x)

unfoldable pub txns : ℕ
txns = 16

unfoldable pub page_of : ℕ → ℕ
page_of o = (o - 1) / 16

-- reached from the root, through objects on pages that pass the test
pub data Path (m : ℕ → Obj) (q : ℕ → Bool) : ℕ → Type 0 where
  root : Path m q 1
  edge : {o x : ℕ} → Path m q o → q (page_of o) ≡ true → points (m o) x ≡ true → Path m q x

abbrev pub Reach : (ℕ → Obj) → ℕ → Type 0
Reach m x = Path m (λ p. true) x

-- what holds of a committed state by itself: n objects, lines below now
pub record Whole (n now : ℕ) (m : ℕ → Obj) (tag : ℕ → Tag) : Type 0 where
  -- a reference in a reached object is to the record that it was written for: no later line creates or frees the target
  pub leads : (o f : ℕ) → Reach m o → is_ref (m o) f ≡ true → ((m o).word f ≡ 0 → ⊥) → (tag ((m o).word f)).born ≤ (tag o).time f
  -- no object is younger than the book
  pub young : (x : ℕ) → (m x).occ ≡ true → (tag x).born ≤ now
  -- references name objects of the store
  pub range : (o x : ℕ) → points (m o) x ≡ true → x ≤ n
  -- what is reached is occupied
  pub wf : (x : ℕ) → Reach m x → (m x).occ ≡ true
