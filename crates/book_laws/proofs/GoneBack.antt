-- What going back leaves in the book: the changes left of each transaction, the committed state, and the pages where it does not write.
-- Assumes nothing.
use Prim.Native.Nat.{ℕ, zero, suc, ◌-◌, ◌≤◌}
use native.Mathlib.Omega.{arith}
use mathlib.Core.Path.{◌≡◌, refl, sym, ap, ◌∙◌}
use mathlib.Core.Bool.{Bool, true, false}
use mathlib.Core.List.{List, ◌∷◌}
use lib.ListN.{drop}
use borrow.Author.Tests.{ne_eqb}
use Rattle.words.specs.Tests.{by_bool, clash}
use Rattle.pages.specs.Geometry.{page_of}
use Rattle.book.specs.Lines.{Line, is_left, left, struck_newest, has_commit}
use Rattle.book.specs.Books.{Book, runs, counts_full}
use Rattle.book.specs.Feeding.{undoes, goes_back}
use Rattle.book_laws.specs.Seen.{seen, seen_committed, seen_full}
use Rattle.book_laws.specs.Striking.{undoing_line, Strikes, entries}
use Rattle.book_laws.specs.Keeping.{Runs, BookInv, Writers}
use Rattle.book_laws.proofs.Folds.{seen_out, seen_agree, seen_strikes}
use Rattle.book_laws.proofs.Undoing.{struck_not_left, strikes_newest, Newest, newest}
use Rattle.book_laws.proofs.Ends.{unended, left_facts, commit_strikes, undoing_kind}
use Rattle.book_laws.proofs.Committed.{alike_undoing, filtered_strikes}
use Rattle.book_laws.proofs.Openness.{open_intro, open_undo}
use Rattle.book_laws.proofs.Finishing.{undo_lines, undo_left, undo_inv}
use Rattle.book_laws.proofs.GoingBack.{some_left}
use Rattle.book_laws.proofs.Backing.{change_other}
use Rattle.book_laws.proofs.OwnPages.{left_of, left_past}

-- one change undone
module _ (b : Book) (inv : BookInv b) (t : ℕ) (run : Runs b t) (k : ℕ) (more : left (b.running t) b.lines ≡ suc k) where
  abbrev j : ℕ
  j = b.running t

  abbrev l : Line
  l = (newest j b.lines k more).0

  abbrev top : Newest j b.lines l
  top = (newest j b.lines k more).1

  struck : Strikes j b.lines (struck_newest j b.lines)
  struck = strikes_newest j b.lines

  lines : (undoes b t).lines ≡ undoing_line j l ∷ struck_newest j b.lines
  lines = undo_lines b inv t run k more

  pub undo_own : (h : ℕ) → drop h (left_of j (undoes b t).lines) ≡ drop (suc h) (left_of j b.lines)
  unfolding entries
  undo_own h = ap (λ (ls : List Line). drop h (left_of j ls)) lines ∙ ap (drop h) (left_past j (undoing_line j l) (struck_newest j b.lines) (struck_not_left j (undoing_line j l)))
      ∙ sym (ap (λ (ls : List Line). drop (suc h) (entries ls)) top.rest)

  pub undo_other : (u : ℕ) → Runs b u → (u ≡ t → ⊥) → left_of (b.running u) (undoes b t).lines ≡ left_of (b.running u) b.lines
  undo_other u r n = ap (left_of (b.running u)) lines ∙ left_past (b.running u) (undoing_line j l) (struck_newest j b.lines) (struck_not_left (b.running u) (undoing_line j l))
      ∙ ap entries (filtered_strikes (is_left (b.running u)) j (λ y c. (is_not y c, struck_not_left (b.running u) y)) struck)
    where
      is_not : (y : Line) → is_left j y ≡ true → is_left (b.running u) y ≡ false
      is_not y c = by_bool (is_left (b.running u) y) (λ d. absurd (n (inv.distinct u t r (sym (left_facts (b.running u) y d).owner ∙ (left_facts j y c).owner)))) (λ d. d)

  pub undo_committed : (x : ℕ) → seen_committed (undoes b t) x ≡ seen_committed b x
  undo_committed x = rw lines ((alike_undoing j l (unended j b.lines (inv.unended t run)) struck).shows b.origin x)

  commits : (h : ℕ) → has_commit h (undoes b t).lines ≡ has_commit h b.lines
  unfolding has_commit
  commits h = ap (has_commit h) lines ∙ rw (undoing_kind l.entry).uncommitted (commit_strikes h j struck)

  pub undo_counts : (m : Line) → counts_full (undoes b t) m ≡ counts_full b m
  unfolding runs
  undo_counts m = rw (commits m.owner)

  undo_full : (wr : ℕ → ℕ → Bool) → Writers b wr → (x : ℕ) → wr t (page_of x) ≡ false → seen_full (undoes b t) x ≡ seen_full b x
  undo_full wr w x off = seen_agree b.origin (counts_full (undoes b t)) (counts_full b) (undoes b t).lines x (λ m h e. undo_counts m)
      ∙ ap (λ (ls : List Line). seen b.origin (counts_full b) ls x) lines
      ∙ seen_out b.origin (counts_full b) (undoing_line j l) (struck_newest j b.lines) x (rw (undoing_kind l.entry).unswept refl)
      ∙ seen_strikes b.origin (counts_full b) j x struck (λ m h e. change_other j m e x (ne_eqb x m.entry.object (λ z.
      clash (rw z (w.writes t m.entry.object (open_intro b t m.entry.object run m h e refl))) off)))

  undo_writers : (wr : ℕ → ℕ → Bool) → Writers b wr → Writers (undoes b t) wr
  undo_writers wr w = record { writes = λ u x e. w.writes u x (open_undo b inv t run k more u x e); one = w.one }

-- k of them
module _ (t : ℕ) where
  abbrev some : (k : ℕ) (b : Book) → suc k ≤ left (b.running t) b.lines → left (b.running t) b.lines ≡ suc (left (b.running t) b.lines - 1)
  some k b h = some_left k (left (b.running t) b.lines) h

  fewer : (k : ℕ) (b : Book) (inv : BookInv b) (r : Runs b t) → suc k ≤ left (b.running t) b.lines → k ≤ left (b.running t) (undoes b t).lines
  fewer k b inv r h = let e = undo_left b inv t r _ (some k b h) in omega arith

  pub went_own : (k : ℕ) (b : Book) → BookInv b → Runs b t → k ≤ left (b.running t) b.lines → left_of (b.running t) (goes_back k b t).lines ≡ drop k (left_of (b.running t) b.lines)
  unfolding goes_back
  went_own zero b inv r h = refl
  went_own (suc k) b inv r h = went_own k (undoes b t) (undo_inv b inv t r _ (some k b h)) r (fewer k b inv r h) ∙ undo_own b inv t r _ (some k b h) k

  pub went_other : (k : ℕ) (b : Book) → BookInv b → Runs b t → k ≤ left (b.running t) b.lines → (u : ℕ) → Runs b u → (u ≡ t → ⊥)
      → left_of (b.running u) (goes_back k b t).lines ≡ left_of (b.running u) b.lines
  unfolding goes_back
  went_other zero b inv r h u q n = refl
  went_other (suc k) b inv r h u q n = went_other k (undoes b t) (undo_inv b inv t r _ (some k b h)) r (fewer k b inv r h) u q n ∙ undo_other b inv t r _ (some k b h) u q n

  pub went_committed : (k : ℕ) (b : Book) → BookInv b → Runs b t → k ≤ left (b.running t) b.lines → (x : ℕ) → seen_committed (goes_back k b t) x ≡ seen_committed b x
  unfolding goes_back
  went_committed zero b inv r h x = refl
  went_committed (suc k) b inv r h x = went_committed k (undoes b t) (undo_inv b inv t r _ (some k b h)) r (fewer k b inv r h) x ∙ undo_committed b inv t r _ (some k b h) x

  pub went_full : (wr : ℕ → ℕ → Bool) (k : ℕ) (b : Book) → BookInv b → Writers b wr → Runs b t → k ≤ left (b.running t) b.lines → (x : ℕ) → wr t (page_of x) ≡ false
      → seen_full (goes_back k b t) x ≡ seen_full b x
  unfolding goes_back
  went_full wr zero b inv w r h x off = refl
  went_full wr (suc k) b inv w r h x off = went_full wr k (undoes b t) (undo_inv b inv t r _ (some k b h)) (undo_writers b inv t r _ (some k b h) wr w) r (fewer k b inv r h) x off
      ∙ undo_full b inv t r _ (some k b h) wr w x off

  pub went_marked : (k : ℕ) (b : Book) → (goes_back k b t).marked ≡ b.marked
  unfolding goes_back
  went_marked zero b = refl
  went_marked (suc k) b = went_marked k (undoes b t)
