-- The full pages where a running transaction writes: the committed state with the changes that it has left, oldest first. Assumes nothing.
use Prim.Native.Nat.{ℕ}
use mathlib.Core.Path.{◌≡◌, refl, sym, ap, ◌∙◌}
use mathlib.Core.Bool.{Bool, true, false, not, ◌&&◌, ◌||◌}
use mathlib.Core.List.{List, [], ◌∷◌}
use mathlib.Core.Logic.{inl, inr}
use lib.Dec.{eqb}
use borrow.Author.Tests.{eq-eqb, ne_eqb}
use Rattle.words.specs.Tests.{by_bool, clash, or_false, and_true, and_false}
use Rattle.pages.specs.Geometry.{page_of}
use Rattle.records.specs.declared.Record.{Record}
use Rattle.records.specs.Records.{is_sweep}
use Rattle.collector.specs.Objects.{Obj, born_at}
use Rattle.collector.specs.Undo.{Item}
use Rattle.machine_view.specs.View.{applied}
use Rattle.book.specs.Lines.{Line, is_left, has_commit, filtered}
use Rattle.book.specs.Books.{Book, runs, counts_committed, counts_full}
use Rattle.book_laws.specs.Seen.{Seen, touches, seen, seen_committed, seen_full}
use Rattle.book_laws.specs.Striking.{entries, Every, Away, Backs, nothing, past, here}
use Rattle.book_laws.specs.Keeping.{In, Runs, BookInv, Writers}
use Rattle.book_laws.proofs.Folds.{untouched, seen_past, seen_out, seen_on, seen_agree}
use Rattle.book_laws.proofs.Ends.{unended, left_facts}
use Rattle.book_laws.proofs.Running.{runs_by}
use Rattle.book_laws.proofs.Ending.{touch, by_owner, full_owner, open_line}
use Rattle.book_laws.proofs.Backing.{every_map, every_first, every_rest, change_other}

-- object x after these records, newest first, from v on
unfoldable pub applied_all : List Record → ℕ → Obj → Obj
applied_all [] x v = v
applied_all (r ∷ rs) x v = applied r x (applied_all rs x v)

-- the records of the lines that are left of own transaction i
abbrev pub left_of : ℕ → List Line → List Record
left_of i ls = entries (filtered (is_left i) ls)

pub still : (r : Record) (x : ℕ) (v : Obj) → touches r x ≡ false → applied r x v ≡ v
still r x v e = ap (λ (s : Seen). s.object) (untouched 0 r x (record { object = v; tag = born_at 0 }) e)

pub left_past : (i : ℕ) (l : Line) (ls : List Line) → is_left i l ≡ false → left_of i (l ∷ ls) ≡ left_of i ls
unfolding filtered
left_past i l ls e = rw e

pub left_here : (i : ℕ) (l : Line) (ls : List Line) → is_left i l ≡ true → left_of i (l ∷ ls) ≡ l.entry ∷ left_of i ls
unfolding filtered entries
left_here i l ls e = rw e

-- what counts, apart from what is left of i
module _ (a : List ℕ) (c : Line → Bool) (i x : ℕ) where
  abbrev besides : Line → Bool
  besides l = c l && not (is_left i l)

  -- an object that no change left names
  quiet : (ls : List Line) (us : List Item) → Backs a c i ls us → Every (λ o. eqb x o ≡ false) us → (v : Obj) → applied_all (left_of i ls) x v ≡ v
  unfolding applied_all filtered entries
  quiet [] us nothing h v = refl
  quiet (l ∷ ls) us (past e f b) h v = rw (left_past i l ls e) (quiet ls us b h v)
  quiet (l ∷ ls) (u ∷ us) (here e k p b) h v = rw (left_here i l ls e)
      (ap (applied l.entry x) (quiet ls us b (every_rest h) v) ∙ still l.entry x v (change_other i l e x (rw p.object (every_first h))))

  -- a line touches x and none of the items
  apart : (r : Record) (us : List Item) → touches r x ≡ true → Away r us → Every (λ o. eqb x o ≡ false) us
  apart r us e h = every_map us (λ o d. ne_eqb x o (λ z. clash e (rw z d))) h

  abbrev Parted : List Line → Type 0
  Parted ls = (seen a c ls x).object ≡ applied_all (left_of i ls) x (seen a besides ls x).object

  parted_past : (l : Line) (ls : List Line) (us : List Item) → is_left i l ≡ false → (c l ≡ true → Away l.entry us) → Backs a c i ls us → Parted ls → Parted (l ∷ ls)
  parted_past l ls us e f b h = by_bool (touches l.entry x)
      (λ d. by_bool (c l)
      (λ k. let q = quiet ls us b (apart l.entry us d (f k)) in
      ap (λ (s : Seen). s.object) (seen_on a c l ls x k) ∙ ap (applied l.entry x) (h ∙ q (seen a besides ls x).object)
      ∙ sym (rw (left_past i l ls e) (q (seen a besides (l ∷ ls) x).object) ∙ ap (λ (s : Seen). s.object) (seen_on a besides l ls x (rw (k, e) refl))))
      (λ k. same (seen_out a c l ls x k) (seen_out a besides l ls x (rw k refl))))
      (λ d. same (seen_past a c l ls x d) (seen_past a besides l ls x d))
    where
      same : seen a c (l ∷ ls) x ≡ seen a c ls x → seen a besides (l ∷ ls) x ≡ seen a besides ls x → Parted (l ∷ ls)
      same p q = ap (λ (s : Seen). s.object) p ∙ h ∙ sym (rw (left_past i l ls e, q) refl)

  parted_here : (l : Line) (ls : List Line) → is_left i l ≡ true → c l ≡ true → Parted ls → Parted (l ∷ ls)
  unfolding applied_all
  parted_here l ls e k h = ap (λ (s : Seen). s.object) (seen_on a c l ls x k) ∙ ap (applied l.entry x) h
      ∙ sym (rw (left_here i l ls e, seen_out a besides l ls x (rw (k, e) refl)) refl)

  pub parted : (ls : List Line) (us : List Item) → Backs a c i ls us → Parted ls
  unfolding applied_all filtered entries seen
  parted [] us nothing = refl
  parted (l ∷ ls) us (past e f b) = parted_past l ls us e f b (parted ls us b)
  parted (l ∷ ls) (u ∷ us) (here e k p b) = parted_here l ls e k (parted ls us b)

-- on a page that t writes
module _ (b : Book) (inv : BookInv b) (wr : ℕ → ℕ → Bool) (w : Writers b wr) (t : ℕ) (run : Runs b t) (x : ℕ) (on : wr t (page_of x) ≡ true) where
  abbrev i : ℕ
  i = b.running t

  none : has_commit i b.lines ≡ false
  none = unended i b.lines (inv.unended t run)

  -- a line left of t is not committed
  uncommitted : (l : Line) → is_left i l ≡ true → counts_committed b l ≡ false
  uncommitted l e = let f = left_facts i l e in rw (f.unswept, f.struck, f.owner) none

  -- what runs and touches x is t's, and left
  is_left_law : (l : Line) → In l b.lines → touches l.entry x ≡ true → is_sweep l.entry ≡ false → l.struck ≡ false → runs b l.owner ≡ true → is_left i l ≡ true
  is_left_law l j h s k z = runs_by b l.owner z (λ u small q n.
      let r : Runs b u = λ y. n (sym q ∙ y) in
      let d : u ≡ t = w.one u t (page_of x) (w.writes u x (open_line b inv wr w u r l j x (sym q) k s h)) on in
      let o : l.owner ≡ i = sym q ∙ ap b.running d in
      elim (touch l.entry x h s).0 [
        | inl e ↦ rw (eq-eqb l.owner i o, k, e) refl
        | inr e ↦ clash ((inv.lines l j).undoes e) k
      ])

  counted_so : (l : Line) → In l b.lines → touches l.entry x ≡ true → (counts_full b l && not (is_left i l)) ≡ counts_committed b l
  counted_so l j h = by_bool (is_left i l)
      (λ e. rw e (and_false (counts_full b l) ∙ sym (uncommitted l e)))
      (λ e. rw e (and_true (counts_full b l) ∙ full_owner (is_sweep l.entry) l.struck (has_commit l.owner b.lines) (runs b l.owner)
      ∙ by_owner (is_sweep l.entry) l.struck (has_commit l.owner b.lines || runs b l.owner) (has_commit l.owner b.lines)
      (λ s k. by_bool (runs b l.owner) (λ z. clash (is_left_law l j h s k z) e) (λ z. rw z (or_false (has_commit l.owner b.lines))))))

  pub own_view : (us : List Item) → Backs b.origin (counts_full b) i b.lines us → (seen_full b x).object ≡ applied_all (left_of i b.lines) x (seen_committed b x).object
  own_view us h = parted b.origin (counts_full b) i x b.lines us h
      ∙ ap (λ (s : Seen). applied_all (left_of i b.lines) x s.object) (seen_agree b.origin _ (counts_committed b) b.lines x counted_so)
