-- The lines of a log, newest first, and three readings of them at one object: the full pages, what reopening makes of them, and the
-- committed state by the book. This serves the proof of demand 3; its claim never mentions it. Assumes nothing.
use Rattle.std.specs.Prelude.{ℕ, ◌≡◌, Bool, true, false, not, cond, List, [], ◌∷◌, eqb}
use Rattle.collector.specs.Bits.{◌and◌, ◌or◌}
use Rattle.collector.specs.Objects.{Obj, blank}

-- acts t o d u: transaction t changes object o by d; u takes the change back. cleared q: a sweep of the objects of q.
pub data Line : Type 0 where
  began kept ended : ℕ → Line
  acts : ℕ → ℕ → (Obj → Obj) → (Obj → Obj) → Line
  cleared : (ℕ → Bool) → Line

-- a set of transactions with one more, with one less
abbrev pub with : (ℕ → Bool) → ℕ → ℕ → Bool
with w t u = w u or eqb u t

abbrev pub without : (ℕ → Bool) → ℕ → ℕ → Bool
without w t u = not (eqb u t) and w u

abbrev pub everyone : ℕ → Bool
everyone u = true

abbrev pub nobody : ℕ → Bool
nobody u = false

module _ (base : ℕ → Obj) (o : ℕ) where
  -- every line takes effect
  unfoldable pub replay : List Line → Obj
  replay [] = base o
  replay (began t ∷ ls) = replay ls
  replay (kept t ∷ ls) = replay ls
  replay (ended t ∷ ls) = replay ls
  replay (acts t x d u ∷ ls) = cond (eqb x o) (d (replay ls)) (replay ls)
  replay (cleared q ∷ ls) = cond (q o) blank (replay ls)

  -- the sweeps and the lines of transactions that w counts as kept, or that a later kept line counts
  unfoldable pub book : (ℕ → Bool) → List Line → Obj
  book w [] = base o
  book w (began t ∷ ls) = book (without w t) ls
  book w (kept t ∷ ls) = book (with w t) ls
  book w (ended t ∷ ls) = book (without w t) ls
  book w (acts t x d u ∷ ls) = cond (w t and eqb x o) (d (book w ls)) (book w ls)
  book w (cleared q ∷ ls) = cond (q o) blank (book w ls)

-- the undoing, newest line first, of the transactions that r counts as not ended
unfoldable pub undo : ℕ → (ℕ → Bool) → List Line → Obj → Obj
undo o r [] v = v
undo o r (began t ∷ ls) v = undo o (with r t) ls v
undo o r (kept t ∷ ls) v = undo o (without r t) ls v
undo o r (ended t ∷ ls) v = undo o (without r t) ls v
undo o r (acts t x d u ∷ ls) v = undo o r ls (cond (r t and eqb x o) (u v) v)
undo o r (cleared q ∷ ls) v = undo o r ls v

-- a line of t's transaction that is open at the end of the log names o
unfoldable pub touches : ℕ → ℕ → List Line → Bool
touches t o [] = false
touches t o (began u ∷ ls) = not (eqb u t) and touches t o ls
touches t o (kept u ∷ ls) = not (eqb u t) and touches t o ls
touches t o (ended u ∷ ls) = not (eqb u t) and touches t o ls
touches t o (acts u x d b ∷ ls) = (eqb u t and eqb x o) or touches t o ls
touches t o (cleared q ∷ ls) = touches t o ls

-- P holds of the lines, and did of each shorter log before them
pub data Always (P : List Line → Type 0) : List Line → Type 0 where
  first : P [] → Always P []
  also : {l : Line} {ls : List Line} → P (l ∷ ls) → Always P ls → Always P (l ∷ ls)

-- reopening leaves what the book says is committed
abbrev pub Recovers : (ℕ → Obj) → List Line → Type 0
Recovers base ls = (o : ℕ) → undo o everyone ls (replay base o ls) ≡ book base o nobody ls
