-- What holds of every log that moves make. Assumes nothing.
use Prim.Native.Nat.{ℕ, zero, suc}
use mathlib.Core.Path.{◌≡◌, sym, ◌∙◌}
use mathlib.Core.Bool.{Bool, true, false}
use mathlib.Core.List.{List, [], ◌∷◌}
use lib.ListN.{drop}
use lib.Dec.{eqb}
use Rattle.collector.specs.Objects.{Obj}
use Rattle.recovery_proof.specs.Lines.{Line, began, kept, ended, acts, cleared, replay, book, undo, touches, everyone, nobody, Always, first, also, Recovers}
use Rattle.recovery_proof.specs.Moves.{Log, own}
use Rattle.recovery_proof.proofs.Counting.{Opened}

-- each line can be taken back where it stands, and no line names an object that another transaction's open line names
unfoldable pub Good : (ℕ → Obj) → List Line → Type 0
Good base [] = Unit {0}
Good base (began t ∷ ls) = Good base ls
Good base (kept t ∷ ls) = Good base ls
Good base (ended t ∷ ls) = Good base ls
Good base (acts t x d u ∷ ls) = (u (d (replay base x ls)) ≡ replay base x ls) × ((v : ℕ) → touches v x ls ≡ true → v ≡ t) × Good base ls
Good base (cleared q ∷ ls) = ((v x : ℕ) → touches v x ls ≡ true → q x ≡ false) × Good base ls

-- who writes
pub record Writers (wr : ℕ → ℕ → Bool) (act : ℕ → Bool) : Type 0 where
  -- a page has one writer
  pub sole : (t u p : ℕ) → wr t p ≡ true → wr u p ≡ true → t ≡ u
  -- a writer is active
  pub busy : (t p : ℕ) → wr t p ≡ true → act t ≡ true

pub record Inv (base : ℕ → Obj) (s : Log) : Type 0 where
  -- an abort can take back what is open
  pub good : Good base s.lines
  -- the full pages show every line
  pub full : (o : ℕ) → replay base o s.lines ≡ s.full o
  -- reopening with all lines stable would leave the committed objects
  pub undone : (o : ℕ) → undo o everyone s.lines (s.full o) ≡ s.comm o
  -- the committed objects are those of the book
  pub booked : (o : ℕ) → book base o nobody s.lines ≡ s.comm o
  -- open lines are on pages that their transaction writes
  pub owned : (t o : ℕ) → touches t o s.lines ≡ true → own s t o ≡ true
  -- on the pages that t writes, the full pages are the book's with t kept
  pub mine : (t o : ℕ) → own s t o ≡ true → book base o (λ u. eqb u t) s.lines ≡ s.full o
  -- a page that nobody writes is as committed
  pub free : (o : ℕ) → ((t : ℕ) → own s t o ≡ false) → s.full o ≡ s.comm o
  -- no transaction begins while a line of its number is open: undoing goes back no further than the begin
  pub opens : Opened s.lines
  -- one writer a page, and an active one
  pub writers : Writers s.wr s.act
  -- reopening leaves what the book says of every part of the log that may be stable
  pub past : Always (Recovers base) s.lines

-- the invariant from its parts, the last of which follows
pub inv : {base : ℕ → Obj} (s : Log)
    → ((o : ℕ) → replay base o s.lines ≡ s.full o)
    → ((o : ℕ) → undo o everyone s.lines (s.full o) ≡ s.comm o)
    → ((o : ℕ) → book base o nobody s.lines ≡ s.comm o)
    → ((t o : ℕ) → touches t o s.lines ≡ true → own s t o ≡ true)
    → ((t o : ℕ) → own s t o ≡ true → book base o (λ u. eqb u t) s.lines ≡ s.full o)
    → ((o : ℕ) → ((t : ℕ) → own s t o ≡ false) → s.full o ≡ s.comm o)
    → Opened s.lines
    → Writers s.wr s.act
    → (Recovers base s.lines → Always (Recovers base) s.lines)
    → Good base s.lines
    → Inv base s
inv {base} s f u b o m r p w a g = record {
  good = g;
  full = f;
  undone = u;
  booked = b;
  owned = o;
  mine = m;
  free = r;
  opens = p;
  writers = w;
  past = a (λ x. rw (f x) (u x ∙ sym (b x)));
}

-- the same log by its parts
pub carried : (base : ℕ → Obj) (s s' : Log)
    → ((o : ℕ) → s.full o ≡ s'.full o)
    → ((o : ℕ) → s.comm o ≡ s'.comm o)
    → ((t p : ℕ) → s.wr t p ≡ s'.wr t p)
    → ((t : ℕ) → s.act t ≡ s'.act t)
    → s.lines ≡ s'.lines
    → Inv base s → Inv base s'
carried base s s' f k w a l i =
    let e : s ≡ s' = λ j. record { full = λ o. f o j; comm = λ o. k o j; wr = λ t p. w t p j; act = λ t. a t j; lines = l j } in rw e at i

-- the shorter logs: the lines without the newest j
pub always_drop : {P : List Line → Type 0} (ls : List Line) (j : ℕ) → Always P ls → P (drop j ls)
always_drop ls zero (first p) = p
always_drop ls zero (also p a) = p
always_drop ls (suc j) (first p) = p
always_drop ls (suc j) (also {ls = ms} p a) = always_drop ms j a

pub past_drop : {base : ℕ → Obj} {s : Log} (j : ℕ) → Inv base s → Recovers base (drop j s.lines)
past_drop {base} {s} j i = always_drop s.lines j i.past
