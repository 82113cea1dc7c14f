-- Lines of a list: one of them, all of them, and whether an own transaction has ended in it. Assumes nothing.
use Prim.Native.Nat.{ℕ, zero, suc}
use mathlib.Core.Path.{◌≡◌}
use mathlib.Core.Bool.{Bool, true}
use mathlib.Core.List.{List, [], ◌∷◌}
use lib.ListN.{drop}
use Rattle.words.specs.Tests.{by_bool, or_l, or_r}
use Rattle.book.specs.Lines.{Line, filtered}
use Rattle.book_laws.specs.Keeping.{In, here, later, Each, any_line}

-- every line of no list and of a longer list
pub each_nil : (P : Line → Type 0) → Each P []
each_nil P = λ l i. elim i [ ]

pub each_cons : {P : Line → Type 0} {m : Line} {ls : List Line} → P m → Each P ls → Each P (m ∷ ls)
each_cons p q l here = p
each_cons p q l (later i) = q l i

pub each_drop : {P : Line → Type 0} (j : ℕ) (ls : List Line) → Each P ls → Each P (drop j ls)
each_drop zero ls h = h
each_drop (suc j) [] h = h
each_drop (suc j) (m ∷ ls) h = each_drop j ls (λ l i. h l (later i))

taken : (f : Line → Bool) (m : Line) (ls : List Line) (l : Line) → f m ≡ true → (In l (filtered f ls) → In l ls × (f l ≡ true)) → In l (m ∷ filtered f ls) → In l (m ∷ ls) × (f l ≡ true)
taken f m ls l e h here = (here, e)
taken f m ls l e h (later j) = let k = h j in (later k.0, k.1)

pub in_filtered : (f : Line → Bool) (ls : List Line) (l : Line) → In l (filtered f ls) → In l ls × (f l ≡ true)
unfolding filtered
in_filtered f [] l i = elim i [ ]
in_filtered f (m ∷ ls) l i = by_bool (f m)
    (λ e. taken f m ls l e (λ j. in_filtered f ls l j) (rw e at i))
    (λ e. let k = in_filtered f ls l (rw e at i) in (later k.0, k.1))

pub any_line_law : (f : Line → Bool) (ls : List Line) (l : Line) → In l ls → f l ≡ true → any_line f ls ≡ true
unfolding any_line
any_line_law f [] l i e = elim i [ ]
any_line_law f (m ∷ ls) l here e = or_l (f m) (any_line f ls) e
any_line_law f (m ∷ ls) l (later i) e = or_r (f m) (any_line f ls) (any_line_law f ls l i e)
